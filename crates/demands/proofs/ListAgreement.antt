-- "two accepted plans that agree there (same unit numbers, rules and edges) give it the same list": from the bytes of two plans to the words in
-- their tables. Both lists are rising, and the splitting theory says that they have the same members. Last lists agree with the same SHOW (02, S-11): then
-- the cuts of the same members are the same.
use Rattle.demands.proofs.Prelude.{◌≡◌, refl, sym, ap, ap₂, ◌∙◌, subst, ◌&&◌, List, ℕ, ◌+◌, ◌*◌, ◌≤◌, ◌<◌, arith, length, get_or, Has, apart, ◌∩◌}
use Rattle.demands.proofs.Prelude.{padded, bool_ext, all_in_at, all_in_intro, lent, negative, inputs, truth, uses, USE_BITS, used_table, use_holds}
use Rattle.demands.proofs.Prelude.{uses_hold, MAX_UNITS, LIST_WORDS, COUNTS, LAST_COUNT, Accepted, reading, IsByte, All, Units, units_of, Listed}
use Rattle.demands.proofs.Prelude.{with_last, SameRule, Agree, AgreeLast, unit_list_of, last_list_of, list_at, Answer, answer, Holding, Shown, ListOf}
use Rattle.splitting.proofs.UnitAgreement.{agree_sym, agreement}
use Rattle.demands.proofs.HeldLists.{list_there, list_last, held_count, held_padded}
use Rattle.demands.proofs.Answers.{accepted_passed}
use Rattle.demands.proofs.Enumerations.{list_once}
use Rattle.demands.proofs.Demand3.{few, unit_list_is, last_list_is, accepted_held}

-- unit u has the same count and the same 256 words in both answers
pub record SameList (u : ℕ) (a b : Answer) : Type 0 where
  pub count : get_or a.counts u 0 ≡ get_or b.counts u 0
  pub words : (i : ℕ) → i < LIST_WORDS → get_or a.table (LIST_WORDS * u + i) 0 ≡ get_or b.table (LIST_WORDS * u + i) 0

-- a list of an accepted plan in its place: its members by meaning, its count and its words
record InTable (Member : ℕ → Type 0) (list : List ℕ) (place : ℕ) (a : Answer) : Type 0 where
  list_of : ListOf Member list
  count_is : get_or a.counts place 0 ≡ length list
  words_are : (i : ℕ) → i < LIST_WORDS → get_or a.table (LIST_WORDS * place + i) 0 ≡ get_or (padded LIST_WORDS list) i 0

module _ (bytes table : List ℕ) (all : All IsByte bytes) (e : (answer bytes table).outcome ≡ Accepted) where
  abbrev S : Units
  S = units_of (reading bytes).plan

  held : Holding (list_at S) table (answer bytes table).table (answer bytes table).counts
  held =
      accepted_held bytes table all (accepted_passed bytes table e)
      {r = record { outcome = (answer bytes table).outcome; counts = (answer bytes table).counts }}
      (record { outcome_is = refl; counts_are = refl; table_is = refl }) e

  placed : (Member : ℕ → Type 0) (list : List ℕ) (place : ℕ) → place < COUNTS → list_at S place ≡ list → ListOf Member list
      → InTable Member list place (answer bytes table)
  placed Member list place l there is = record {
    list_of = is;
    count_is = held_count held place l ∙ ap length there;
    words_are = λ i k. held_padded held place i l k ∙ ap (λ (xs : List ℕ). get_or (padded LIST_WORDS xs) i 0) there;
  }

  unit_in_table : (u : ℕ) → u < S.units → InTable (Listed S u) (unit_list_of S u) u (answer bytes table)
  unit_in_table u l =
      let passed = accepted_passed bytes table e in
      let most : S.units ≤ MAX_UNITS = few bytes table all passed in
      placed (Listed S u) (unit_list_of S u) u (omega arith) (list_there S u most l) (unit_list_is bytes table all passed u l)

  last_in_table : InTable (Shown S) (last_list_of S) LAST_COUNT (answer bytes table)
  last_in_table =
      placed (Shown S) (last_list_of S) LAST_COUNT (omega arith) (list_last S) (last_list_is bytes table all (accepted_passed bytes table e))

same_list : {P Q : ℕ → Type 0} {xs ys : List ℕ} {place : ℕ} {a b : Answer} → xs ≡ ys → InTable P xs place a → InTable Q ys place b
    → SameList place a b
same_list e x y = record {
  count = x.count_is ∙ ap length e ∙ sym y.count_is;
  words = λ i k. x.words_are i k ∙ ap (λ (xs : List ℕ). get_or (padded LIST_WORDS xs) i 0) e ∙ sym (y.words_are i k);
}

-- S-4: "Plans agree on a unit only with the same tables and uses there": rules with the same words and uses, of tables with the same words
pub record SameWords (rules rules' : List ℕ) (r s : ℕ) : Type 0 where
  pub head : (lent rules).head r ≡ (lent rules').head s
  pub positive : (lent rules).positive r ≡ (lent rules').positive s
  pub negatives : negative rules r ≡ negative rules' s
  pub same_uses : uses rules r ≡ uses rules' s
  pub tables : (i : ℕ) → i < USE_BITS → Has (uses rules r) i
      → (inputs rules (used_table i) ≡ inputs rules' (used_table i)) × (truth rules (used_table i) ≡ truth rules' (used_table i))

pub same_rule : {rules rules' : List ℕ} {r s : ℕ} → SameWords rules rules' r s → SameRule (lent rules) (lent rules') r s
unfolding lent uses_hold use_holds
same_rule {rules} {rules'} {r} {s} w = record {
  head = w.head;
  positive = w.positive;
  rest = λ M. ap₂ ◌&&◌ (ap (λ (n : ℕ). apart n M) w.negatives) (all_same M);
}
  where
    one : (M i : ℕ) → i < USE_BITS → Has (uses rules r) i → use_holds rules i M ≡ use_holds rules' i M
    one M i l h = let t = w.tables i l h in rw (t.0, t.1) refl

    all_same : (M : ℕ) → uses_hold rules r M ≡ uses_hold rules' s M
    all_same M =
        bool_ext (uses_hold rules r M) (uses_hold rules' s M)
        (λ e. all_in_intro USE_BITS (uses rules' s) (λ i. use_holds rules' i M)
        (λ i l h. let k = rw (sym w.same_uses) at h in
        sym (one M i l k) ∙ all_in_at USE_BITS (uses rules r) (λ i. use_holds rules i M) e i l k))
        (λ e. all_in_intro USE_BITS (uses rules r) (λ i. use_holds rules i M)
        (λ i l h. one M i l h ∙ all_in_at USE_BITS (uses rules' s) (λ i. use_holds rules' i M) e i l (rw w.same_uses at h)))

pub lists_agree : (bytes bytes' table table' : List ℕ) → All IsByte bytes → All IsByte bytes' → (answer bytes table).outcome ≡ Accepted
    → (answer bytes' table').outcome ≡ Accepted → (u : ℕ) → u < (units_of (reading bytes).plan).units → u < (units_of (reading bytes').plan).units
    → Agree (units_of (reading bytes).plan) (units_of (reading bytes').plan) u → SameList u (answer bytes table) (answer bytes' table')
lists_agree bytes bytes' table table' all all' e e' u l l' g =
    let S = units_of (reading bytes).plan in
    let T = units_of (reading bytes').plan in
    let x = unit_in_table bytes table all e u l in
    let y = unit_in_table bytes' table' all' e' u l' in
    let same : ListOf (Listed S u) (unit_list_of T u) = record {
      rising = y.list_of.rising;
      members = λ M.
          let both = agreement S T u M g l l' in
          (λ m. both.1 ((y.list_of.members M).0 m), λ h. (y.list_of.members M).1 (both.0 h));
    } in
    same_list (list_once x.list_of same) x y

agree_last_sym : {S T : Units} → AgreeLast S T → AgreeLast T S
agree_last_sym {S} {T} g = record {
  units = sym g.units;
  shown = sym g.shown;
  agree = subst (λ (u : ℕ). Agree (with_last T) (with_last S) u) g.units (agree_sym g.agree);
}

shown_there : {S T : Units} {X : ℕ} → AgreeLast S T → Shown S X → Shown T X
unfolding with_last
shown_there {S} {T} g c =
    let e = g.units in
    record {
      whole = c.whole;
      wanted = subst (λ (u : ℕ). Listed (with_last T) u c.whole) e
          ((agreement (with_last S) (with_last T) S.units c.whole g.agree (omega arith) (omega arith)).0 c.wanted);
      is = c.is ∙ ap (λ (w : ℕ). c.whole ∩ w) g.shown;
    }

-- "Plans agree on the last list only with the same SHOW." (02, S-11)
pub last_lists_agree : (bytes bytes' table table' : List ℕ) → All IsByte bytes → All IsByte bytes' → (answer bytes table).outcome ≡ Accepted
    → (answer bytes' table').outcome ≡ Accepted → AgreeLast (units_of (reading bytes).plan) (units_of (reading bytes').plan)
    → SameList LAST_COUNT (answer bytes table) (answer bytes' table')
last_lists_agree bytes bytes' table table' all all' e e' g =
    let S = units_of (reading bytes).plan in
    let T = units_of (reading bytes').plan in
    let x = last_in_table bytes table all e in
    let y = last_in_table bytes' table' all' e' in
    let same : ListOf (Shown S) (last_list_of T) = record {
      rising = y.list_of.rising;
      members = λ X. (
        λ m. shown_there (agree_last_sym g) ((y.list_of.members X).0 m),
        λ c. (y.list_of.members X).1 (shown_there g c),
      );
    } in
    same_list (list_once x.list_of same) x y
