-- Laws on Bool tests: what a test's answer says, and when two tests give the same answer.
use Rattle.atoms.proofs.Prelude.{◌≡◌, refl, sym, ◌∙◌, Bool, true, false, not, ◌&&◌, ◌||◌, true≢false, false≢true, ◌↔◌, ◌⊎◌, inl, inr, ℕ, eqb, eqb-true}
use Rattle.atoms.proofs.Prelude.{eqb-false, Decides}

-- a test is true or false
pub test_cases : (b : Bool) → (b ≡ true) ⊎ (b ≡ false)
test_cases true = inl refl
test_cases false = inr refl

pub not_both : {b : Bool} → b ≡ true → b ≡ false → ⊥
not_both t f = true≢false (sym t ∙ f)

-- two tests of which each is true where the other is are equal
pub bool_ext : (a b : Bool) → (a ≡ true → b ≡ true) → (b ≡ true → a ≡ true) → a ≡ b
bool_ext true b f g = sym (f refl)
bool_ext false true f g = g refl
bool_ext false false f g = refl

pub and-true : (a b : Bool) → (a && b ≡ true) ↔ ((a ≡ true) × (b ≡ true))
and-true true b = (λ e. (refl, e), λ h. h.1)
and-true false b = (λ e. absurd (false≢true e), λ h. h.0)

pub or-true : (a b : Bool) → (a || b ≡ true) ↔ ((a ≡ true) ⊎ (b ≡ true))
or-true true b = (λ e. inl refl, λ h. refl)
or-true false b = (inr, other)
  where
    other : (false ≡ true) ⊎ (b ≡ true) → b ≡ true
    other (inl e) = absurd (false≢true e)
    other (inr e) = e

pub not_is_true : (a : Bool) → (not a ≡ true) ↔ (a ≡ false)
not_is_true true = (sym, sym)
not_is_true false = (λ e. refl, λ e. refl)

-- `not a || b` is "a implies b"
pub implies_true : (a b : Bool) → (not a || b ≡ true) ↔ (a ≡ true → b ≡ true)
implies_true true b = (λ e h. e, λ f. f refl)
implies_true false b = (λ e h. absurd (false≢true h), λ f. refl)

-- what is not false is true, and so on
pub true_of_not_false : (b : Bool) → ¬ (b ≡ false) → b ≡ true
true_of_not_false true h = refl
true_of_not_false false h = absurd (h refl)

pub false_of_not_true : (b : Bool) → ¬ (b ≡ true) → b ≡ false
false_of_not_true true h = absurd (h refl)
false_of_not_true false h = refl

-- a test that decides P, from the two halves of an equivalence
pub decides : {P : Type 0} (b : Bool) → (b ≡ true → P) → (P → b ≡ true) → Decides P b
decides b f g = record { yes = f; no = λ e p. not_both (g p) e }

-- where P holds its test is true, and where P does not it is false
pub decided_true : {P : Type 0} {b : Bool} → Decides P b → P → b ≡ true
decided_true {b = b} d p = true_of_not_false b (λ e. d.no e p)

pub decided_false : {P : Type 0} {b : Bool} → Decides P b → ¬ P → b ≡ false
decided_false {b = b} d h = false_of_not_true b (λ e. h (d.yes e))

pub decided : {P : Type 0} {b : Bool} → Decides P b → Dec P
decided {P} {b} d = go (test_cases b)
  where
    go : (b ≡ true) ⊎ (b ≡ false) → Dec P
    go (inl e) = yes (d.yes e)
    go (inr e) = no (d.no e)

-- two tests of equivalent statements are equal
pub decides_same : {P Q : Type 0} {a b : Bool} → Decides P a → Decides Q b → (P → Q) → (Q → P) → a ≡ b
decides_same {a = a} {b = b} d e f g =
    bool_ext a b (λ h. decided_true e (f (d.yes h))) (λ h. decided_true d (g (e.yes h)))

pub decides_iff : {P Q : Type 0} {b : Bool} → (P → Q) → (Q → P) → Decides P b → Decides Q b
decides_iff f g d = record { yes = λ e. f (d.yes e); no = λ e q. d.no e (g q) }

pub decides_and : {P Q : Type 0} {a b : Bool} → Decides P a → Decides Q b → Decides (P × Q) (a && b)
decides_and {a = a} {b = b} d e =
    decides (a && b) (λ h. (d.yes ((and-true a b).0 h).0, e.yes ((and-true a b).0 h).1))
    (λ pq. (and-true a b).1 (decided_true d pq.0, decided_true e pq.1))

pub decides_or : {P Q : Type 0} {a b : Bool} → Decides P a → Decides Q b → Decides (P ⊎ Q) (a || b)
decides_or {P} {Q} {a} {b} d e = decides (a || b) (λ h. from ((or-true a b).0 h)) into
  where
    from : (a ≡ true) ⊎ (b ≡ true) → P ⊎ Q
    from (inl h) = inl (d.yes h)
    from (inr h) = inr (e.yes h)

    into : P ⊎ Q → a || b ≡ true
    into (inl p) = (or-true a b).1 (inl (decided_true d p))
    into (inr q) = (or-true a b).1 (inr (decided_true e q))

pub decides_not : {P : Type 0} {a : Bool} → Decides P a → Decides (¬ P) (not a)
decides_not {a = a} d =
    decides (not a) (λ h. d.no ((not_is_true a).0 h)) (λ h. (not_is_true a).1 (decided_false d h))

pub decides_implies : {P Q : Type 0} {a b : Bool} → Decides P a → Decides Q b → Decides (P → Q) (not a || b)
decides_implies {P} {Q} {a} {b} d e =
    decides (not a || b) (λ h p. e.yes ((implies_true a b).0 h (decided_true d p)))
    (λ f. (implies_true a b).1 (λ h. decided_true e (f (d.yes h))))

pub decides_equal : (a b : ℕ) → Decides (a ≡ b) (eqb a b)
decides_equal a b = record { yes = eqb-true a b; no = eqb-false a b }
