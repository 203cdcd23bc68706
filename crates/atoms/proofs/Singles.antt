-- One number and a word: the set of a number that passes a test, the test of a number in a word, and words of at most one number.
use Rattle.atoms.proofs.Prelude.{◌≡◌, refl, sym, ap, ◌∙◌, subst, Bool, true, false, not, ℕ, ℕ_discrete, eqb, Has, has, ◌∖◌, atom, apart, AtMostOne}
use Rattle.atoms.proofs.Prelude.{Decides, single_if}
use Rattle.atoms.proofs.Tests.{decides_same, decides_not, decides_iff, decides_equal, not_both}
use Rattle.atoms.proofs.Sets.{decides_has, decides_has_atom, has_dec, has_atom, atom_only, has_none, has_without, without_left, without_right, empty}

-- ---- the set of the one number where a test holds

pub single_if_true : (b : Bool) (i : ℕ) → b ≡ true → atom i ≡ single_if b i
unfolding single_if
single_if_true b i e = rw (e, single_if)

pub single_if_false : (b : Bool) (i : ℕ) → b ≡ false → 0 ≡ single_if b i
unfolding single_if
single_if_false b i e = rw (e, single_if)

pub single_if_has : (b : Bool) (i : ℕ) → b ≡ true → Has (single_if b i) i
unfolding single_if
single_if_has true i e = has_atom i
single_if_has false i e = absurd (not_both e refl)

pub single_if_at : (b : Bool) (i : ℕ) {a : ℕ} → Has (single_if b i) a → (b ≡ true) × (i ≡ a)
unfolding single_if
single_if_at true i h = (refl, atom_only i h)
single_if_at false i h = absurd (has_none h)

-- ---- a number is in a word exactly if its own set is not apart from the word

pub not_apart_is_has : (w k : ℕ) → not (apart w (atom k)) ≡ has w k
not_apart_is_has w k = decides_same (decides_not (decides_has_atom w k)) (decides_has w k) (λ h. go h (has_dec w k)) (λ h n. n h)
  where
    go : ¬ ¬ Has w k → Dec (Has w k) → Has w k
    go h (yes p) = p
    go h (no n) = absurd (h n)

pub lacks_of_apart : (w k : ℕ) → apart w (atom k) ≡ true → has w k ≡ false
lacks_of_apart w k e = sym (not_apart_is_has w k) ∙ ap not e

pub has_of_not_apart : (w k : ℕ) → apart w (atom k) ≡ false → has w k ≡ true
has_of_not_apart w k e = sym (not_apart_is_has w k) ∙ ap not e

-- the same as code makes the test: t ≡ are_apart(w, s) with s ≡ single(k)
pub has_is_test : (w k : ℕ) {s : ℕ} {t : Bool} → s ≡ atom k → t ≡ apart w s → not t ≡ has w k
has_is_test w k p q = ap not (q ∙ ap (λ (x : ℕ). apart w x) p) ∙ not_apart_is_has w k

pub lacks_of_test : (w k : ℕ) {s : ℕ} {t : Bool} → s ≡ atom k → t ≡ apart w s → t ≡ true → has w k ≡ false
lacks_of_test w k p q e = sym (has_is_test w k p q) ∙ ap not e

pub has_of_test : (w k : ℕ) {s : ℕ} {t : Bool} → s ≡ atom k → t ≡ apart w s → t ≡ false → has w k ≡ true
has_of_test w k p q e = sym (has_is_test w k p q) ∙ ap not e

-- ---- words of at most one atom

pub at_most_none : (w : ℕ) → w ≡ 0 → AtMostOne w
at_most_none w e = record { same = λ i j p q. absurd (has_none (subst (λ (x : ℕ). Has x i) e p)) }

-- one that is left without any once an atom is taken away
pub decides_at_most_one : (w r d : ℕ) → Has w r → d ≡ w ∖ atom r → Decides (AtMostOne w) (eqb d 0)
decides_at_most_one w r d h e = decides_iff into from (decides_equal d 0)
  where
    is_r : d ≡ 0 → (i : ℕ) → Has w i → Dec (r ≡ i) → r ≡ i
    is_r z i p (yes q) = q
    is_r z i p (no n) = absurd (has_none (subst (λ (x : ℕ). Has x i) (sym e ∙ z) (has_without w (atom r) p (λ k. n (atom_only r k)))))

    into : d ≡ 0 → AtMostOne w
    into z = record { same = λ i j p q. sym (is_r z i p (ℕ_discrete r i)) ∙ is_r z j q (ℕ_discrete r j) }

    from : AtMostOne w → d ≡ 0
    from o =
        e
        ∙ empty (w ∖ atom r)
        (λ i p.
        without_right w (atom r) p (subst (λ (x : ℕ). Has (atom r) x) (o.same r i h (without_left w (atom r) p)) (has_atom r)))

-- a test that the number is in the word, as the code makes it
pub numbered_by : (w k : ℕ) {x : ℕ} {t : Bool} → x ≡ atom k → t ≡ apart w x → t ≡ false → Has w k
numbered_by w k e f g = (decides_has w k).yes (has_of_test w k e f g)

pub lacked_by : (w k : ℕ) {x : ℕ} {t : Bool} → x ≡ atom k → t ≡ apart w x → t ≡ true → ¬ Has w k
lacked_by w k e f g = (decides_has w k).no (lacks_of_test w k e f g)
