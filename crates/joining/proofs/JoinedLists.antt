-- The lists of direct predecessors: to join all is to join each.
use Rattle.std.specs.Ordering.{nat_cmp}
use Rattle.std.specs.List.{IsAnyAnswer}
use Rattle.std.proofs.Common.{Equal}
use Rattle.std.proofs.lemmas.Bool.Decides.{nat_tests}
use Rattle.atoms.specs.Bounded.{some_below}
use Rattle.atoms.proofs.Tests.{bool_ext}
use Rattle.joining.proofs.Prelude.{◌≡◌, sym, ap, ◌∙◌, Bool, true, false, List, ℕ, ◌+◌, ◌*◌, ◌≤◌, ◌<◌, arith, length, get_or, eqb}
use Rattle.joining.proofs.Prelude.{some_at, some_none, take, drop, length-take, length-drop, get_or-take, get_or-drop, false≢true, eqb-true, eq-eqb, Taking}
use Rattle.joining.proofs.Prelude.{taking_end, taken_lent, taken_lt, Has, ◌⊆◌, ◌∩◌, Lowest, has_lt, subset_le, some_intro}
use Rattle.joining.proofs.Prelude.{all_in_at, all_in_intro, all_in_fails, all_in_none, MAX_UNITS, LIST_WORDS, is_among, is_listed, joins, Joinable, JoinsAll}

-- no list
pub joins_none : (table counts heads : List ℕ) (M : ℕ) → joins table counts heads 0 M ≡ true
unfolding joins
joins_none table counts heads M =
    all_in_none MAX_UNITS (λ v. is_listed table (LIST_WORDS * v) (get_or counts v 0) (M ∩ get_or heads v 0))

-- each, or one that has it not
pub joins_each : (table counts heads : List ℕ) (w M : ℕ)
    → ((v : ℕ) → Has w v → is_listed table (LIST_WORDS * v) (get_or counts v 0) (M ∩ get_or heads v 0) ≡ true) → joins table counts heads w M ≡ true
unfolding joins
joins_each table counts heads w M f =
    all_in_intro MAX_UNITS w (λ v. is_listed table (LIST_WORDS * v) (get_or counts v 0) (M ∩ get_or heads v 0)) (λ v l h. f v h)

joins_fails : (table counts heads : List ℕ) (w M v : ℕ) → v < MAX_UNITS → Has w v
    → is_listed table (LIST_WORDS * v) (get_or counts v 0) (M ∩ get_or heads v 0) ≡ false → joins table counts heads w M ≡ false
unfolding joins
joins_fails table counts heads w M v l h e =
    all_in_fails MAX_UNITS w (λ u. is_listed table (LIST_WORDS * u) (get_or counts u 0) (M ∩ get_or heads u 0)) v l h e

-- the list of a predecessor that a loop takes is there, with its count and its head atoms
module _ {table counts heads : List ℕ} {w : ℕ} (j : Joinable table counts heads w) {rest v : ℕ} (f : rest ⊆ w) (low : Lowest rest v) where
  pub unit_taken : v < MAX_UNITS
  unit_taken = taken_lt MAX_UNITS j.few f low

  pub count_there : v < length counts
  count_there = omega (arith, unit_taken, j.counts_long)

  pub heads_there : v < length heads
  heads_there = omega (arith, unit_taken, j.heads_long)

  pub list_there : LIST_WORDS * v + get_or counts v 0 ≤ length table
  list_there = omega (arith, j.table_long v (taken_lent f low), j.small v unit_taken)

-- as the test of one list says, of the position's cut
module _ (table counts heads : List ℕ) (M v : ℕ) {cut : ℕ} {b : Bool} (c : cut ≡ M ∩ get_or heads v 0)
    (t : b ≡ is_listed table (LIST_WORDS * v) (get_or counts v 0) cut) where
  listed_so : b ≡ is_listed table (LIST_WORDS * v) (get_or counts v 0) (M ∩ get_or heads v 0)
  listed_so = t ∙ ap (is_listed table (LIST_WORDS * v) (get_or counts v 0)) c

  pub listed_said : b ≡ true → is_listed table (LIST_WORDS * v) (get_or counts v 0) (M ∩ get_or heads v 0) ≡ true
  listed_said f = sym listed_so ∙ f

  pub joins_not : (w : ℕ) → v < MAX_UNITS → Has w v → b ≡ false → false ≡ joins table counts heads w M
  joins_not w l h f = sym (joins_fails table counts heads w M v l h (sym listed_so ∙ f))

pub joins_all : (table counts heads : List ℕ) (w M : ℕ) {rest : ℕ}
    → Taking w rest (λ v. is_listed table (LIST_WORDS * v) (get_or counts v 0) (M ∩ get_or heads v 0) ≡ true) → rest ≡ 0 → true ≡ joins table counts heads w M
joins_all table counts heads w M t e = sym (joins_each table counts heads w M (taking_end t e))

-- a word at a place of the list
pub listed_here : (words : List ℕ) (base count value i : ℕ) → i < count → get_or words (base + i) 0 ≡ value → true ≡ is_listed words base count value
unfolding is_listed
listed_here words base count value i l e =
    sym (some_intro count (λ (k : ℕ). eqb (get_or words (base + k) 0) value) i l (eq-eqb (get_or words (base + i) 0) value e))

-- a word of the list
pub among_here : (list : List ℕ) (value i : ℕ) → i < length list → get_or list i 0 ≡ value → true ≡ is_among list value
unfolding is_among
among_here list value i l e =
    sym (some_intro (length list) (λ (k : ℕ). eqb (get_or list k 0) value) i l (eq-eqb (get_or list i 0) value e))

-- as the library finds it
pub same_number : (x y : ℕ) → nat_cmp x y ≡ Equal → x ≡ y
same_number x y e = grind (arith, nat_tests)

pub among_any : (list : List ℕ) (value : ℕ) (r : Bool) → IsAnyAnswer (λ x b. eqb x value ≡ b) list r → r ≡ is_among list value
unfolding is_among
among_any list value true f = among_here list value f.0 f.1 (eqb-true (get_or list f.0 0) value (f.2 0))
among_any list value false f =
    sym (some_none (length list) (λ (k : ℕ). eqb (get_or list k 0) value) (λ k l e. false≢true (sym (f k 0 (omega arith) l) ∙ e)))

-- a list that is a part of the table
pub listed_part : (words : List ℕ) (base count m value : ℕ) → m ≡ count → base + count ≤ length words
    → is_among (take m (drop base words)) value ≡ is_listed words base count value
unfolding is_among is_listed
listed_part words base count m value e fits = rw (e, long) (bool_ext _ _ into from)
  where
    long : length (take count (drop base words)) ≡ count
    long = simp (length-take, length-drop) (omega (arith, fits))

    here : (i : ℕ) → i < count → get_or (take count (drop base words)) i 0 ≡ get_or words (base + i) 0
    here i l = get_or-take count (drop base words) i 0 l ∙ get_or-drop base words i 0

    into : some_below count (λ i. eqb (get_or (take count (drop base words)) i 0) value) ≡ true
        → some_below count (λ i. eqb (get_or words (base + i) 0) value) ≡ true
    into h =
        let s = some_at count (λ (i : ℕ). eqb (get_or (take count (drop base words)) i 0) value) h in
        some_intro count (λ (i : ℕ). eqb (get_or words (base + i) 0) value) s.0 s.1 (rw (here s.0 s.1) at s.2)

    from : some_below count (λ i. eqb (get_or words (base + i) 0) value) ≡ true
        → some_below count (λ i. eqb (get_or (take count (drop base words)) i 0) value) ≡ true
    from h =
        let s = some_at count (λ (i : ℕ). eqb (get_or words (base + i) 0) value) h in
        some_intro count (λ (i : ℕ). eqb (get_or (take count (drop base words)) i 0) value) s.0 s.1 (rw (here s.0 s.1) s.2)

-- to join one is to be in its list
pub joins_one : (table counts heads : List ℕ) (predecessors M v : ℕ) → v < MAX_UNITS → Has predecessors v
    → JoinsAll table counts heads predecessors M → is_listed table (LIST_WORDS * v) (get_or counts v 0) (M ∩ get_or heads v 0) ≡ true
unfolding joins
joins_one table counts heads predecessors M v l h j =
    all_in_at MAX_UNITS predecessors (λ u. is_listed table (LIST_WORDS * u) (get_or counts u 0) (M ∩ get_or heads u 0)) j.joined v l h

-- a predecessor is below MAX_UNITS, and its list is in the table
pub joined_lt : {table counts heads : List ℕ} {predecessors rest v : ℕ} → Joinable table counts heads predecessors
    → rest ⊆ predecessors → Has rest v → v < MAX_UNITS
joined_lt {predecessors = predecessors} {v = v} j f h = has_lt predecessors MAX_UNITS j.few (f.each v h)

-- ---- the nearest predecessors

-- to join all is to join some
pub joins_some : (table counts heads : List ℕ) (predecessors near M : ℕ) → near ⊆ predecessors
    → JoinsAll table counts heads predecessors M → JoinsAll table counts heads near M
unfolding joins
joins_some table counts heads predecessors near M f j = record {
  joined = all_in_intro MAX_UNITS near (λ v. is_listed table (LIST_WORDS * v) (get_or counts v 0) (M ∩ get_or heads v 0))
      (λ v l h.
      all_in_at MAX_UNITS predecessors (λ u. is_listed table (LIST_WORDS * u) (get_or counts u 0) (M ∩ get_or heads u 0)) j.joined v l (f.each v h));
}

pub joinable_some : {table counts heads : List ℕ} {predecessors near : ℕ} → near ⊆ predecessors
    → Joinable table counts heads predecessors → Joinable table counts heads near
joinable_some f j = record {
  table_long = λ v h. j.table_long v (f.each v h);
  counts_long = j.counts_long;
  heads_long = j.heads_long;
  few = omega (arith, subset_le f, j.few);
  small = j.small;
}
