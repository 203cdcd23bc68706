-- The laws of counts: what the test says, and how a count grows along the list.
use Rattle.questions.proofs.Prelude.{◌≡◌, refl, sym, ap, ap₂, ◌∙◌, subst, Bool, true, false, ◌⊎◌, inl, inr, List, [], ◌∷◌, ◌++◌, ℕ, zero, suc, ◌+◌}
use Rattle.questions.proofs.Prelude.{◌≤◌, ◌<◌, arith, eqb, bool_byte, length, get_or, take, length-append, take-suc, take_all, Has, ◌∩◌, ◌∪◌, ◌∖◌}
use Rattle.questions.proofs.Prelude.{decides_subset, decides_apart, has_dec, has_left, has_right, has_none, empty, has_without, without_left}
use Rattle.questions.proofs.Prelude.{without_right, has_cut, cut_left, cut_right, union_cases, FitsQuestion, fits, one, fitting_count, Places}
use Rattle.questions.proofs.Prelude.{CountsMean}
use Rattle.atoms.specs.Bounded.{Decides}
use Rattle.atoms.specs.Rising.{members}
use Rattle.atoms.proofs.Tests.{decides_and, decides_iff, decides_same, decides_equal, decided_true, decided_false}
use Rattle.atoms.proofs.Rising.{members_at, members_has, members_rising}

-- ---- one position

pub decides_fits : (up dropped position : ℕ) → Decides (FitsQuestion up dropped position) (fits up dropped position)
unfolding fits
decides_fits up dropped position =
    decides_iff (λ h. record { every_up = h.0; none_dropped = h.1 }) (λ f. (f.every_up, f.none_dropped))
    (decides_and (decides_subset up position) (decides_apart dropped position))

-- the atoms in the way: up atoms that the position lacks, and dropped ones that it has
fits_of_none : (up dropped position : ℕ) → (up ∖ position) ∪ (dropped ∩ position) ≡ 0 → FitsQuestion up dropped position
fits_of_none up dropped position e =
    record {
      every_up = record { each = λ i h. present i h (has_dec position i) };
      none_dropped = record { none = λ i d p. clear i (has_right (up ∖ position) (dropped ∩ position) (has_cut dropped position d p)) };
    }
  where
    clear : (i : ℕ) → ¬ Has ((up ∖ position) ∪ (dropped ∩ position)) i
    clear i h = has_none (subst (λ (w : ℕ). Has w i) e h)

    present : (i : ℕ) → Has up i → Dec (Has position i) → Has position i
    present i h (yes p) = p
    present i h (no n) = absurd (clear i (has_left (up ∖ position) (dropped ∩ position) (has_without up position h n)))

none_of_fits : (up dropped position : ℕ) → FitsQuestion up dropped position → (up ∖ position) ∪ (dropped ∩ position) ≡ 0
none_of_fits up dropped position f = empty ((up ∖ position) ∪ (dropped ∩ position)) (λ i h. clear i (union_cases (up ∖ position) (dropped ∩ position) h))
  where
    clear : (i : ℕ) → Has (up ∖ position) i ⊎ Has (dropped ∩ position) i → ⊥
    clear i (inl h) = without_right up position h (f.every_up.each i (without_left up position h))
    clear i (inr h) = f.none_dropped.none i (cut_left dropped position h) (cut_right dropped position h)

pub fits_test : (up dropped position : ℕ) → eqb ((up ∖ position) ∪ (dropped ∩ position)) 0 ≡ fits up dropped position
fits_test up dropped position =
    decides_same (decides_equal ((up ∖ position) ∪ (dropped ∩ position)) 0) (decides_fits up dropped position) (fits_of_none up dropped position)
    (none_of_fits up dropped position)

-- ---- along the list

pub count-append : (xs ys : List ℕ) (up dropped : ℕ) → fitting_count (xs ++ ys) up dropped ≡ fitting_count xs up dropped + fitting_count ys up dropped
unfolding fitting_count
count-append [] ys up dropped = omega arith
count-append (x ∷ xs) ys up dropped = let e = count-append xs ys up dropped in omega arith

-- a Bool that is cast to a number
pub byte_is_one : (b : Bool) → bool_byte b ≡ one b
byte_is_one true = refl
byte_is_one false = refl

pub one-le : (b : Bool) → one b ≤ 1
one-le true = omega arith
one-le false = omega arith

pub count-le : (list : List ℕ) (up dropped : ℕ) → fitting_count list up dropped ≤ length list
unfolding fitting_count
count-le [] up dropped = omega arith
count-le (x ∷ xs) up dropped = let l = count-le xs up dropped in omega (arith, one-le (fits up dropped x))

pub count_more : (list : List ℕ) (at up dropped : ℕ) → at < length list
    → fitting_count (take (suc at) list) up dropped ≡ fitting_count (take at list) up dropped + one (fits up dropped (get_or list at 0))
unfolding fitting_count
count_more list at up dropped l =
    ap (λ (xs : List ℕ). fitting_count xs up dropped) (take-suc list at 0 l)
    ∙ count-append (take at list) (get_or list at 0 ∷ []) up dropped
    ∙ omega arith

-- "contradictory questions count 0"
pub contradictory_count : (list : List ℕ) (up dropped atom : ℕ) → Has up atom → Has dropped atom → fitting_count list up dropped ≡ 0
unfolding fitting_count
contradictory_count [] up dropped atom u d = refl
contradictory_count (x ∷ xs) up dropped atom u d =
    ap₂ ◌+◌ (ap one (decided_false (decides_fits up dropped x) (λ f. f.none_dropped.none atom d (f.every_up.each atom u))))
    (contradictory_count xs up dropped atom u d)

-- the count is the number of places whose position fits
pub count_places : (list : List ℕ) (up dropped n : ℕ) → n ≤ length list
    → fitting_count (take n list) up dropped ≡ length (members (λ at. fits up dropped (get_or list at 0)) n)
unfolding fitting_count members
count_places list up dropped zero l = refl
count_places list up dropped (suc n) l =
    count_more list n up dropped l ∙ ap (λ (k : ℕ). k + one (fits up dropped (get_or list n 0))) (count_places list up dropped n (omega arith))
    ∙ one_more (members (λ at. fits up dropped (get_or list at 0)) n) n (fits up dropped (get_or list n 0))
  where
    one_more : (xs : List ℕ) (n : ℕ) (b : Bool) → length xs + one b ≡ length (xs ++ elim b [ true ↦ n ∷ [] | false ↦ [] ])
    one_more xs n true = sym (length-append xs (n ∷ []))
    one_more xs n false = sym (length-append xs [])

-- so the contract says it
pub counts_mean : (list : List ℕ) → CountsMean list
counts_mean list = record { count = λ up dropped. at_places up dropped }
  where
    at_places : (up dropped : ℕ) → Places list up dropped (fitting_count list up dropped)
    at_places up dropped =
        let test : ℕ → Bool = λ at. fits up dropped (get_or list at 0) in
        record {
          places = members test (length list);
          rising = members_rising test (length list);
          where_it_fits = λ at. (
            λ m. let h = members_at test (length list) at m in (h.0, (decides_fits up dropped (get_or list at 0)).yes h.1),
            λ k. members_has test (length list) at k.0 (decided_true (decides_fits up dropped (get_or list at 0)) k.1),
          );
          as_many =
              sym (count_places list up dropped (length list) (omega arith))
              ∙ ap (λ (xs : List ℕ). fitting_count xs up dropped) (take_all (length list) list (omega arith));
        }
