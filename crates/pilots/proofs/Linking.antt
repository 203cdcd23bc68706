-- How rules are linked one after the other.
use Rattle.pilots.proofs.Prelude.{◌≡◌, refl, sym, ap, subst, ◌∙◌, ◌⊎◌, inl, inr, List, ℕ, ◌+◌, ◌^◌, ◌≤◌, ◌<◌, arith, ℕ_discrete, dec_lt, eqb}
use Rattle.pilots.proofs.Prelude.{length, get_or, take, set, length-set, paste, get_or-set_same, get_or-set_other, get_or-take, length-take-le, ATOMS, Has}
use Rattle.pilots.proofs.Prelude.{Lowest, ◌∪◌, ◌∖◌, atom, union_at, Decides, union_in, decides_iff, decides_equal, has_left, has_right, ext, empty}
use Rattle.pilots.proofs.Prelude.{has_none, has_lt, has_without, without_left, union_cases, union_none_right, atom_only, Taking, taking_start}
use Rattle.pilots.proofs.Prelude.{taking_next, taking_end, MAX_TABLES, FIRST_RULE, RULE_WORDS, lent, Lent, negative, uses, used_table, rule_at}
use Rattle.pilots.proofs.Prelude.{table_first, table_second, LINKED_WORDS, written, on_pilots, off_pilots, LinkedRule, NoPilots, Plain, ToldUses}
use Rattle.pilots.proofs.Prelude.{RuleLinked, RulesLinked, Linked}
use Rattle.atoms.proofs.StoredWords.{stored_front}

-- ---- the uses that are told

-- a pilot that is there tells both uses of its table
pub told_more : {pilots : List ℕ} {told t x y z told' : ℕ} → ToldUses pilots told → ¬ (get_or pilots t 0 ≡ 0) → t < MAX_TABLES → x ≡ atom t
    → y ≡ atom (MAX_TABLES + t) → z ≡ x ∪ y → told' ≡ told ∪ z → ToldUses pilots told'
told_more {pilots} {told} {t} k n l e f g h = rw (h, g, e, f) (record { piloted = λ i p. go i (union_cases told (atom t ∪ atom (MAX_TABLES + t)) p) })
  where
    one : (i : ℕ) → Has (atom t) i ⊎ Has (atom (MAX_TABLES + t)) i → ¬ (get_or pilots (used_table i) 0 ≡ 0)
    one i (inl p) z = n (ap (λ (x : ℕ). get_or pilots x 0) (table_first t l ∙ ap used_table (atom_only t p)) ∙ z)
    one i (inr p) z =
        n (ap (λ (x : ℕ). get_or pilots x 0)
        (omega arith ∙ table_second (MAX_TABLES + t) (omega arith) ∙ ap used_table (atom_only (MAX_TABLES + t) p)) ∙ z)

    go : (i : ℕ) → Has told i ⊎ Has (atom t ∪ atom (MAX_TABLES + t)) i → ¬ (get_or pilots (used_table i) 0 ≡ 0)
    go i (inl p) = k.piloted i p
    go i (inr p) = one i (union_cases (atom t) (atom (MAX_TABLES + t)) p)

pub told_none : {pilots : List ℕ} → ToldUses pilots 0
told_none = record { piloted = λ i h. absurd (has_none h) }

-- ---- four words are written

-- a place there is one after a write
pub room : (l : List ℕ) (i v : ℕ) {j : ℕ} → j < length l → j < length (set l i v)
room l i v h = omega (arith, length-set l i v, h)

module _ (l : List ℕ) (at a b c d : ℕ) (long : at + 4 ≤ length l) where
  abbrev l₁ : List ℕ
  l₁ = set l at a

  abbrev l₂ : List ℕ
  l₂ = set l₁ (at + 1) b

  abbrev l₃ : List ℕ
  l₃ = set l₂ (at + 2) c

  long₁ : length l₁ ≡ length l
  long₁ = length-set l at a

  long₂ : length l₂ ≡ length l
  long₂ = length-set l₁ (at + 1) b ∙ long₁

  long₃ : length l₃ ≡ length l
  long₃ = length-set l₂ (at + 2) c ∙ long₂

  written_length : length (written l at a b c d) ≡ length l
  written_length = length-set l₃ (at + 3) d ∙ long₃

  written_other : (j : ℕ) → (j < at) ⊎ (at + 4 ≤ j) → get_or (written l at a b c d) j 0 ≡ get_or l j 0
  written_other j o =
      get_or-set_other l₃ (at + 3) j d 0 (λ e. off o (omega (arith, e)) (omega (arith, e)))
      ∙ get_or-set_other l₂ (at + 2) j c 0 (λ e. off o (omega (arith, e)) (omega (arith, e)))
      ∙ get_or-set_other l₁ (at + 1) j b 0 (λ e. off o (omega (arith, e)) (omega (arith, e)))
      ∙ get_or-set_other l at j a 0 (λ e. off o (omega (arith, e)) (omega (arith, e)))
    where
      off : (j < at) ⊎ (at + 4 ≤ j) → at ≤ j → j < at + 4 → ⊥
      off (inl h) p q = omega arith
      off (inr h) p q = omega arith

  first_written : get_or (written l at a b c d) at 0 ≡ a
  first_written =
      get_or-set_other l₃ (at + 3) at d 0 (λ e. omega (arith, e)) ∙ get_or-set_other l₂ (at + 2) at c 0 (λ e. omega (arith, e))
      ∙ get_or-set_other l₁ (at + 1) at b 0 (λ e. omega (arith, e))
      ∙ get_or-set_same l at a 0 (omega (arith, long))

  second_written : get_or (written l at a b c d) (at + 1) 0 ≡ b
  second_written =
      get_or-set_other l₃ (at + 3) (at + 1) d 0 (λ e. omega (arith, e)) ∙ get_or-set_other l₂ (at + 2) (at + 1) c 0 (λ e. omega (arith, e))
      ∙ get_or-set_same l₁ (at + 1) b 0 (omega (arith, long, long₁))

  third_written : get_or (written l at a b c d) (at + 2) 0 ≡ c
  third_written =
      get_or-set_other l₃ (at + 3) (at + 2) d 0 (λ e. omega (arith, e)) ∙ get_or-set_same l₂ (at + 2) c 0 (omega (arith, long, long₂))

  fourth_written : get_or (written l at a b c d) (at + 3) 0 ≡ d
  fourth_written = get_or-set_same l₃ (at + 3) d 0 (omega (arith, long, long₃))

-- so a rule is linked
pub rule_linked : {rules pilots before after : List ℕ} {told r used on off p n a b c d : ℕ} → rule_at r + RULE_WORDS ≤ length before
    → used ≡ uses rules r → on ≡ on_pilots rules pilots r → off ≡ off_pilots rules pilots r
    → a ≡ (lent rules).head r → p ≡ (lent rules).positive r → b ≡ p ∪ on → n ≡ negative rules r → c ≡ n ∪ off → d ≡ used ∖ told
    → after ≡ written before (rule_at r) a b c d → RuleLinked rules pilots told r before after
unfolding lent
rule_linked {rules} {pilots} {before} {told = told} {r} {a = a} {b} {c} {d} l u on off ha hp hb hn hc hd e = rw e (record {
  same_length = written_length before (rule_at r) a b c d l;
  here = record {
    head = first_written before (rule_at r) a b c d l ∙ ha;
    positive = second_written before (rule_at r) a b c d l ∙ rw (hb, hp, on);
    negative = third_written before (rule_at r) a b c d l ∙ rw (hc, hn, off);
    uses = fourth_written before (rule_at r) a b c d l ∙ rw (hd, u);
  };
  elsewhere = written_other before (rule_at r) a b c d l;
})

-- ---- rule after rule

-- rules that are linked stay so where another one is
linked_stays : {rules pilots : List ℕ} {told : ℕ} (before after : List ℕ) (r j : ℕ) → RuleLinked rules pilots told r before after → ¬ (j ≡ r)
    → LinkedRule rules pilots told before j → LinkedRule rules pilots told after j
unfolding lent
linked_stays before after r j k n w = record {
  head = k.elsewhere (rule_at j) (side (dec_lt j r) (rule_at j) (omega arith) (omega arith)) ∙ w.head;
  positive = k.elsewhere (rule_at j + 1) (side (dec_lt j r) (rule_at j + 1) (omega arith) (omega arith)) ∙ w.positive;
  negative = k.elsewhere (rule_at j + 2) (side (dec_lt j r) (rule_at j + 2) (omega arith) (omega arith)) ∙ w.negative;
  uses = k.elsewhere (rule_at j + 3) (side (dec_lt j r) (rule_at j + 3) (omega arith) (omega arith)) ∙ w.uses;
}
  where
    side : Dec (j < r) → (q : ℕ) → rule_at j ≤ q → q < rule_at j + 4 → (q < rule_at r) ⊎ (rule_at r + RULE_WORDS ≤ q)
    side (yes l) q a b = inl (omega arith)
    side (no l) q a b = inr (omega (arith, n))

-- some rules are linked
pub record Linking (rules pilots : List ℕ) (told which rest : ℕ) (before after : List ℕ) : Type 0 where
  pub same_length : length after ≡ length before
  pub taking : Taking which rest (LinkedRule rules pilots told after)
  pub same_tables : (j : ℕ) → j < FIRST_RULE → get_or after j 0 ≡ get_or before j 0

pub linking_start : {rules pilots before : List ℕ} {told which : ℕ} → Linking rules pilots told which which before before
linking_start = record { same_length = refl; taking = taking_start; same_tables = λ j l. refl }

pub linking_next : {rules pilots before between after : List ℕ} {told which rest rest' r : ℕ} → Linking rules pilots told which rest before between
    → Lowest rest r → rest' ≡ rest ∖ atom r → RuleLinked rules pilots told r between after → Linking rules pilots told which rest' before after
linking_next {rules} {pilots} {between = between} {after} {told} {r = r} k low e w = record {
  same_length = w.same_length ∙ k.same_length;
  taking = taking_next k.taking low e (λ j d. go j d (ℕ_discrete j r)) w.here;
  same_tables = λ j l. w.elsewhere j (inl (omega (arith, l))) ∙ k.same_tables j l;
}
  where
    go : (j : ℕ) → LinkedRule rules pilots told between j → Dec (j ≡ r) → LinkedRule rules pilots told after j
    go j d (yes q) = subst (LinkedRule rules pilots told after) (sym q) w.here
    go j d (no n) = linked_stays between after r j w n d

pub linking_end : {rules pilots before after : List ℕ} {told which rest : ℕ} → Linking rules pilots told which rest before after → rest ≡ 0
    → RulesLinked rules pilots told which before after
linking_end k e = record { same_length = k.same_length; each = taking_end k.taking e; same_tables = k.same_tables }

-- ---- the whole

-- there is room for every rule
pub lent_linked : {linked : List ℕ} {which : ℕ} → length linked ≡ LINKED_WORDS → which < 2 ^ ATOMS → Lent linked which
lent_linked {which = which} e l = record { each = λ r h. let k = has_lt which ATOMS l h in omega (arith, e, k) }

-- without room for the tables no rule is numbered
pub linked_none : {rules pilots linked : List ℕ} {which : ℕ} → length rules < FIRST_RULE → Lent rules which → length linked ≡ LINKED_WORDS
    → Linked rules pilots which linked
linked_none {rules} {which = which} s l e = record {
  told = 0;
  told_uses = told_none;
  same_tables = λ r h. absurd (no r h);
  each = λ r h. absurd (no r h);
  there = record { each = λ r h. absurd (no r h) };
  long = e;
}
  where
    no : (r : ℕ) → Has which r → ⊥
    no r h = omega (arith, s, l.each r h)

-- the tables are copied, and the rules linked
pub linked_all : {rules pilots : List ℕ} (before : List ℕ) {between after : List ℕ} {which told : ℕ} → FIRST_RULE ≤ length rules → length before ≡ LINKED_WORDS
    → which < 2 ^ ATOMS → between ≡ paste before 0 (take FIRST_RULE rules) (length (take FIRST_RULE rules)) → ToldUses pilots told
    → RulesLinked rules pilots told which between after → length after ≡ LINKED_WORDS → Linked rules pilots which after
linked_all {rules} before {between} {told = told} l e f g k w long = record {
  told = told;
  told_uses = k;
  same_tables = λ r h j m. w.same_tables j m ∙ copied j m;
  each = w.each;
  there = lent_linked long f;
  long = long;
}
  where
    front : length (take FIRST_RULE rules) ≡ FIRST_RULE
    front = length-take-le FIRST_RULE rules l

    copied : (j : ℕ) → j < FIRST_RULE → get_or between j 0 ≡ get_or rules j 0
    copied j m =
        sym (get_or-take FIRST_RULE between j 0 m)
        ∙ ap (λ (x : List ℕ). get_or x j 0) (stored_front before 0 (take FIRST_RULE rules) {n = FIRST_RULE} (omega arith) (omega (arith, front)) g)
        ∙ get_or-take FIRST_RULE rules j 0 m

-- ---- no pilots

without_none : (w : ℕ) → w ∖ 0 ≡ w
without_none w = ext (w ∖ 0) w (λ i h. without_left w 0 h) (λ i h. has_without w 0 h (λ p. has_none p))

-- the pilots of the tables below n are gathered: the word is 0 just where there are none
pub record NoneBelow (pilots : List ℕ) (n all : ℕ) : Type 0 where
  pub each : all ≡ 0 → (t : ℕ) → t < n → get_or pilots t 0 ≡ 0
  pub all_none : ((t : ℕ) → t < n → get_or pilots t 0 ≡ 0) → all ≡ 0

pub none_start : (pilots : List ℕ) → NoneBelow pilots 0 0
none_start pilots = record { each = λ e t l. absurd (omega (arith, l)); all_none = λ f. refl }

pub none_next : (pilots : List ℕ) (n all : ℕ) {r : ℕ} → NoneBelow pilots n all → r ≡ all ∪ get_or pilots n 0 → NoneBelow pilots (n + 1) r
none_next pilots n all f e = record {
  each = λ z t l. go (sym e ∙ z) t l (ℕ_discrete t n);
  all_none = λ g. e ∙ both (f.all_none (λ t l. g t (omega (arith, l)))) (g n (omega arith));
}
  where
    go : all ∪ get_or pilots n 0 ≡ 0 → (t : ℕ) → t < n + 1 → Dec (t ≡ n) → get_or pilots t 0 ≡ 0
    go z t l (yes q) = rw q (empty (get_or pilots n 0) (λ i h. has_none (rw z at (has_right all (get_or pilots n 0) h))))
    go z t l (no m) = f.each (empty all (λ i h. has_none (rw z at (has_left all (get_or pilots n 0) h)))) t (omega (arith, l, m))

    both : all ≡ 0 → get_or pilots n 0 ≡ 0 → all ∪ get_or pilots n 0 ≡ 0
    both p q = rw (p, q) (union_none_right 0)

pub none_end : (pilots : List ℕ) (n all : ℕ) → NoneBelow pilots n all → n ≡ MAX_TABLES → Decides (NoPilots pilots) (eqb all 0)
none_end pilots n all f e =
    decides_iff (λ z. record { each = λ t l. f.each z t (omega (arith, e, l)) }) (λ p. f.all_none (λ t l. p.each t (omega (arith, e, l))))
    (decides_equal all 0)

-- a plain copy
module _ {rules pilots : List ℕ} (before : List ℕ) {after : List ℕ} {which : ℕ} (p : Plain rules pilots) (e : length before ≡ LINKED_WORDS)
    (f : which < 2 ^ ATOMS) (g : after ≡ paste before 0 (take LINKED_WORDS rules) (length (take LINKED_WORDS rules)))
    (long : length after ≡ LINKED_WORDS) where
  copy_front : length (take LINKED_WORDS rules) ≡ LINKED_WORDS
  copy_front = length-take-le LINKED_WORDS rules p.long

  copied : (j : ℕ) → j < LINKED_WORDS → get_or after j 0 ≡ get_or rules j 0
  copied j m =
      sym (get_or-take LINKED_WORDS after j 0 m)
      ∙ ap (λ (x : List ℕ). get_or x j 0)
      (stored_front before 0 (take LINKED_WORDS rules) {n = LINKED_WORDS} (omega arith) (omega (arith, copy_front)) g)
      ∙ get_or-take LINKED_WORDS rules j 0 m

  -- no pilot is in a word
  no_union : (w : ℕ) → union_in MAX_TABLES w (λ t. get_or pilots t 0) ≡ 0
  no_union w =
      empty _ (λ a h. let u = union_at MAX_TABLES w (λ t. get_or pilots t 0) a h in
      has_none (subst (λ (x : ℕ). Has x a) (p.none.each u.0 u.1) u.3))

  copied_rule : (r : ℕ) → r < ATOMS → LinkedRule rules pilots 0 after r
  unfolding lent
  copied_rule r l = record {
    head = copied (rule_at r) (omega (arith, l));
    positive = copied (rule_at r + 1) (omega (arith, l)) ∙ sym (union_none_right _) ∙ ap (λ (w : ℕ). get_or rules (rule_at r + 1) 0 ∪ w) (sym (no_union _));
    negative = copied (rule_at r + 2) (omega (arith, l)) ∙ sym (union_none_right _) ∙ ap (λ (w : ℕ). get_or rules (rule_at r + 2) 0 ∪ w) (sym (no_union _));
    uses = copied (rule_at r + 3) (omega (arith, l)) ∙ sym (without_none _);
  }

  pub linked_copy : Linked rules pilots which after
  linked_copy = record {
    told = 0;
    told_uses = told_none;
    same_tables = λ r h j m. copied j (omega (arith, m));
    each = λ r h. copied_rule r (has_lt which ATOMS f h);
    there = lent_linked long f;
    long = long;
  }
