-- A constraint whose words hold says that its one use fails; of a parity table that is a row. And which rules are constraints with one such use.
use Rattle.parities.proofs.Prelude.{◌≡◌, refl, sym, ap, ap₂, ◌∙◌, subst, Bool, true, false, not, false≢true, List, ◌⊎◌, inl, inr, ℕ, ◌+◌, ◌/◌, ◌%◌}
use Rattle.parities.proofs.Prelude.{◌^◌, ◌<◌, ◌≤◌, arith, dec_lt, ATOMS, digit, Has, has, ◌⊆◌, subset, ◌∩◌, ◌∪◌, ◌∖◌, atom, below, Lowest, AtMostOne}
use Rattle.parities.proofs.Prelude.{Decides, single_if, union_in, Collects, taken_within, ext, has_cut, cut_right, has_left, has_right, union_cases}
use Rattle.parities.proofs.Prelude.{has_none, has_atom, atom_only, has_below, below_lt, has_lt, subset_refl, subset_trans, decides_has, decides_subset}
use Rattle.parities.proofs.Prelude.{union_none_left, collects_iff, collects_has, collects_union_in, Gathers, gathers_next, gathers_end, single_if_at}
use Rattle.parities.proofs.Prelude.{single_if_has, taken_lent, done_more, decides_iff, decided_true, MAX_TABLES, row, table_answer, Completes, State}
use Rattle.parities.proofs.Prelude.{Body, Satisfies, lent, looks, negative, uses, USE_BITS, used_table, inputs, truth, use_holds, parts_body}
use Rattle.parities.proofs.Prelude.{wanted_true, wanted_false, odd, Parity, RowHolds, open_row, TellsParity, ToldAtom, Held, use_row, Row}
use Rattle.answer_sets.specs.Known.{Part, InBody, PartHolds, has_positive, has_negative, has_use}
use Rattle.parities.proofs.CountedWords.{cut_swap, digit_none}
use Rattle.parities.proofs.Parities.{odd_lt}
use Rattle.parities.proofs.ParityTables.{parity_answer}
use Rattle.parities.proofs.SummedRows.{row_opened}

-- ---- the one use

lone_atom : {w i : ℕ} → AtMostOne w → Has w i → w ≡ atom i
lone_atom {w} {i} one h =
    ext w (atom i) (λ j p. subst (λ (x : ℕ). Has (atom i) x) (one.same i j h p) (has_atom i)) (λ j p. subst (λ (x : ℕ). Has w x) (atom_only i p) h)

pub use_small : (u : ℕ) {first used i : ℕ} → first ≡ below USE_BITS → used ≡ u ∩ first → Lowest used i → i < USE_BITS
use_small u f g low = below_lt USE_BITS (cut_right u (below USE_BITS) (rw (g, f) at low.here))

pub some_head : {rules : List ℕ} {r h : ℕ} → h ≡ (lent rules).head r → ¬ (h ≡ 0) → Decides (TellsParity rules r) false
some_head at n = record { yes = λ t. absurd (false≢true t); no = λ t p. n (at ∙ p.headless) }

module _ (rules : List ℕ) (r : ℕ) {u first used : ℕ} (e : u ≡ uses rules r) (f : first ≡ below USE_BITS) (g : used ≡ u ∩ first) where
  used_is : used ≡ uses rules r ∩ below USE_BITS
  used_is = rw (g, e, f) refl

  pub no_use : used ≡ 0 → Decides (TellsParity rules r) false
  no_use z = record {
    yes = λ t. absurd (false≢true t);
    no = λ t p. has_none (subst (λ (w : ℕ). Has w p.made) (sym p.one ∙ sym used_is ∙ z) (has_atom p.made));
  }

  pub several_uses : ¬ AtMostOne used → Decides (TellsParity rules r) false
  several_uses n = record {
    yes = λ t. absurd (false≢true t);
    no = λ t p. n (subst AtMostOne (sym (used_is ∙ p.one)) (record { same = λ i j h k. sym (atom_only p.made h) ∙ atom_only p.made k }));
  }

  -- the use that a telling rule makes is the lowest
  pub same_use : {i : ℕ} → Has used i → (p : TellsParity rules r) → p.made ≡ i
  same_use {i} h p = atom_only p.made (subst (λ (w : ℕ). Has w i) (used_is ∙ p.one) h)

  pub one_use : {h i t x y : ℕ} {b : Bool} → h ≡ (lent rules).head r → h ≡ 0 → AtMostOne used → Lowest used i → t ≡ used_table i
      → x ≡ inputs rules t → y ≡ truth rules t → Decides (Parity x y) b → Decides (TellsParity rules r) b
  one_use {i = i} at none one low a h k d = decides_iff into back (rw (h, k, a) at d)
    where
      into : Parity (inputs rules (used_table i)) (truth rules (used_table i)) → TellsParity rules r
      into p = record {
        headless = sym at ∙ none;
        made = i;
        small = use_small u f g low;
        one = sym used_is ∙ lone_atom one low.here;
        parity = p;
      }

      back : TellsParity rules r → Parity (inputs rules (used_table i)) (truth rules (used_table i))
      back p = subst (λ (j : ℕ). Parity (inputs rules (used_table j)) (truth rules (used_table j))) (same_use low.here p) p.parity

  -- it makes one
  pub some_use : TellsParity rules r → ¬ (used ≡ 0)
  some_use p z = has_none (subst (λ (w : ℕ). Has w p.made) (sym p.one ∙ sym used_is ∙ z) (has_atom p.made))

-- ---- the rules that make one

-- the word has of the rules that are done those of which K holds
pub record Chosen (K : ℕ → Type 0) (which rest word : ℕ) : Type 0 where
  pub within : rest ⊆ which
  pub each : (a : ℕ) → Has word a → Has which a × K a
  pub all : (a : ℕ) → Has which a → ¬ Has rest a → K a → Has word a

module _ {K : ℕ → Type 0} {which : ℕ} where
  pub chosen_start : Chosen K which which 0
  chosen_start = record { within = subset_refl; each = λ a h. absurd (has_none h); all = λ a h n k. absurd (n h) }

  pub chosen_next : {rest word i rest' x word' : ℕ} {b : Bool} → Chosen K which rest word → Lowest rest i → Decides (K i) b → x ≡ single_if b i
      → word' ≡ word ∪ x → rest' ≡ rest ∖ atom i → Chosen K which rest' word'
  chosen_next {rest} {word} {i} {rest'} {x} {word'} {b} c low d e f g = record {
    within = taken_within c.within low g;
    each = λ a h. from a (union_cases word (single_if b i) (subst (λ (w : ℕ). Has w a) is h));
    all = λ a h n k. subst (λ (w : ℕ). Has w a) (sym is) (into a h k (done_more g n));
  }
    where
      is : word' ≡ word ∪ single_if b i
      is = f ∙ ap (λ (w : ℕ). word ∪ w) e

      from : (a : ℕ) → Has word a ⊎ Has (single_if b i) a → Has which a × K a
      from a (inl h) = c.each a h
      from a (inr h) = let s = single_if_at b i h in subst (λ (j : ℕ). Has which j × K j) s.1 (taken_lent c.within low, d.yes s.0)

      into : (a : ℕ) → Has which a → K a → ¬ Has rest a ⊎ (i ≡ a) → Has (word ∪ single_if b i) a
      into a h k (inl n) = has_left word (single_if b i) (c.all a h n k)
      into a h k (inr q) =
          has_right word (single_if b i) (subst (λ (j : ℕ). Has (single_if b i) j) q (single_if_has b i (decided_true d (subst K (sym q) k))))

  pub chosen_end : {rest word : ℕ} → Chosen K which rest word → rest ≡ 0 → Collects (λ a. Has which a × K a) word
  chosen_end c e = record { each = c.each; all = λ a k. c.all a k.0 (λ h. has_none (subst (λ (w : ℕ). Has w a) e h)) k.1 }

-- ---- their atoms

abbrev rule_atoms : List ℕ → ℕ → ℕ
rule_atoms rules r = (lent rules).head r ∪ ((lent rules).positive r ∪ looks rules r)

-- the atoms of those that are not among the rest
pub record GatheringTold (rules : List ℕ) (which all rest : ℕ) : Type 0 where
  pub telling : ℕ
  pub tell : Collects (λ r. Has which r × TellsParity rules r) telling
  pub within : rest ⊆ telling
  pub gathers : Gathers ATOMS (rule_atoms rules) telling all rest

module _ {rules : List ℕ} {which : ℕ} where
  pub told_start : {telling : ℕ} → which < 2 ^ ATOMS → Collects (λ r. Has which r × TellsParity rules r) telling → GatheringTold rules which 0 telling
  told_start {telling} l c = record {
    telling = telling;
    tell = c;
    within = subset_refl;
    gathers = record { same = union_none_left (union_in ATOMS telling (rule_atoms rules)); bounded = λ r h. has_lt which ATOMS l (c.each r h).0 };
  }

  pub told_numbered : {all rest r : ℕ} → GatheringTold rules which all rest → Lowest rest r → Has which r
  told_numbered {r = r} g low = (g.tell.each r (taken_lent g.within low)).0

  pub told_next : {all rest r rest' x all' : ℕ} → GatheringTold rules which all rest → Lowest rest r → rest' ≡ rest ∖ atom r → x ≡ rule_atoms rules r
      → all' ≡ all ∪ x → GatheringTold rules which all' rest'
  told_next g low e f h = record {
    telling = g.telling;
    tell = g.tell;
    within = taken_within g.within low e;
    gathers = gathers_next g.gathers low e f h;
  }

  pub told_end : which < 2 ^ ATOMS → {all rest : ℕ} → GatheringTold rules which all rest → rest ≡ 0 → Collects (ToldAtom rules which) all
  told_end l g e =
      rw (gathers_end g.gathers e)
      (collects_iff
      (λ a k. let t = g.tell.each k.0 k.2 in record { rule = k.0; numbered = t.0; tells = t.1; within = k.3 })
      (λ a k. (k.rule, has_lt which ATOMS l k.numbered, g.tell.all k.rule (k.numbered, k.tells), k.within))
      (collects_union_in ATOMS g.telling (rule_atoms rules) (λ i m. collects_has (rule_atoms rules i))))

-- ---- what such a rule says

pub held_when : {rules : List ℕ} {r : ℕ} {s : State} {p n : ℕ} {b c : Bool} → p ≡ (lent rules).positive r → n ≡ negative rules r
    → b ≡ subset p s.up → b ≡ true → c ≡ subset n s.dropped → c ≡ true → Held rules r s
held_when {s = s} {p} {n} f g y u z v = record {
  up = rw f at ((decides_subset p s.up).yes (sym y ∙ u));
  down = rw g at ((decides_subset n s.dropped).yes (sym z ∙ v));
}

module _ {rules : List ℕ} {r : ℕ} {s : State} (h : Held rules r s) (t : TellsParity rules r) (N : ℕ) (k : Satisfies (lent rules) r N) (c : Completes s N) where
  -- the one use fails
  use_fails : ¬ (use_holds rules t.made N ≡ true)
  use_fails e = let x = k.head_up body in has_none (subst (λ (w : ℕ). Has w x.0) t.headless x.1)
    where
      only : (j : ℕ) → j < USE_BITS → Has (uses rules r) j → t.made ≡ j
      only j l p = atom_only t.made (subst (λ (w : ℕ). Has w j) t.one (has_cut (uses rules r) (below USE_BITS) p (has_below USE_BITS j l)))

      holds : (p : Part) → InBody rules r p → PartHolds rules r p N
      holds _ has_positive = subset_trans h.up c.has_up
      holds _ has_negative = record { none = λ a p n. c.no_dropped.none a (h.down.each a p) n }
      holds _ (has_use j l p) = rw (only j l p) at e

      body : Body (lent rules) r N
      body = parts_body rules r N holds

-- what the table says where the use fails: 0 where it must be true, 1 where it must be false
module _ (rules : List ℕ) (i N : ℕ) (fails : ¬ (use_holds rules i N ≡ true)) where
  says_no : i < MAX_TABLES → digit (truth rules (used_table i)) (row (inputs rules (used_table i)) N) ≡ 0
  unfolding table_answer
  says_no l = digit_none (λ h. fails (sym (wanted_true rules i N l) ∙ decided_true (decides_has _ _) h))

  says_yes : MAX_TABLES ≤ i → digit (truth rules (used_table i)) (row (inputs rules (used_table i)) N) ≡ 1
  unfolding table_answer
  says_yes l = ((decides_has _ _).yes (said (has (truth rules (used_table i)) (row (inputs rules (used_table i)) N)) (wanted_false rules i N l))).bit
    where
      said : (b : Bool) → not b ≡ use_holds rules i N → b ≡ true
      said true e = refl
      said false e = absurd (fails (sym e))

  -- the answer by the use's sign
  says : i < USE_BITS → digit (truth rules (used_table i)) (row (inputs rules (used_table i)) N) ≡ i / MAX_TABLES
  says l = go (dec_lt i MAX_TABLES)
    where
      go : Dec (i < MAX_TABLES) → digit (truth rules (used_table i)) (row (inputs rules (used_table i)) N) ≡ i / MAX_TABLES
      go (yes m) = says_no m ∙ omega (arith, m)
      go (no m) = says_yes (omega (arith, m)) ∙ omega (arith, m, l)

-- the row's bit from the answer
bit_from : (t : ℕ) {d o q : ℕ} → d ≡ (o + t % 2) % 2 → d ≡ q → o < 2 → q < 2 → o ≡ (t % 2 + q) % 2
bit_from t e f l m = omega (arith, e, f, l, m)

-- the row of a use that fails
pub told_row : {rules : List ℕ} {r i : ℕ} {s : State} {a b : Row} → Held rules r s → (t : TellsParity rules r) → t.made ≡ i
    → inputs rules (used_table i) < 2 ^ ATOMS → a ≡ use_row rules i → b ≡ open_row a s → (N : ℕ) → Satisfies (lent rules) r N → Completes s N
    → RowHolds b.word b.bit N
told_row {rules} {r} {i} {s} h t e l f g N k c = rw (g, f) (row_opened s (inputs rules (used_table i)) l N c whole)
  where
    p : Parity (inputs rules (used_table i)) (truth rules (used_table i))
    p = subst (λ (j : ℕ). Parity (inputs rules (used_table j)) (truth rules (used_table j))) e t.parity

    fails : ¬ (use_holds rules i N ≡ true)
    fails = subst (λ (j : ℕ). ¬ (use_holds rules j N ≡ true)) e (use_fails h t N k c)

    small : i < USE_BITS
    small = subst (λ (j : ℕ). j < USE_BITS) e t.small

    whole : RowHolds (inputs rules (used_table i)) ((truth rules (used_table i) % 2 + i / MAX_TABLES) % 2) N
    whole = record {
      parity =
          ap odd (cut_swap N (inputs rules (used_table i)))
          ∙ bit_from (truth rules (used_table i)) (parity_answer (inputs rules (used_table i)) N l p.few (truth rules (used_table i)) p)
          (says rules i N fails small)
          (odd_lt (inputs rules (used_table i) ∩ N))
          (omega (arith, small));
    }

pub use_row_is : (rules : List ℕ) (i : ℕ) {t x y : ℕ} → t ≡ used_table i → y ≡ truth rules t → x ≡ inputs rules t
    → record { word = x; bit = (y % 2 + i / MAX_TABLES) % 2 } ≡ use_row rules i
use_row_is rules i e f g =
    ap₂ (λ (v b : ℕ). record { word = v; bit = b }) (g ∙ ap (λ (j : ℕ). inputs rules j) e)
    (ap (λ (v : ℕ). (v % 2 + i / MAX_TABLES) % 2) (f ∙ ap (λ (j : ℕ). truth rules j) e))

pub use_bit_small : (rules : List ℕ) (i : ℕ) {r : Row} → r ≡ use_row rules i → r.bit < 2
use_bit_small rules i e = rw e (omega arith)
