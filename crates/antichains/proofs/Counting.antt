-- How many chains there are: with one atom more a chain of k sets grows into one of k + 1 and one of k - 1 sets, so n atoms make of one set as many chains
-- as the middle binomial coefficient says. By Pascal's rule and a sum of which all but one term falls away.
use Rattle.antichains.proofs.Prelude.{◌≡◌, refl, ap, ℕ, zero, suc, ◌+◌, ◌-◌, ◌/◌, ◌≤◌, arith, binomial, middle_binomial}

-- how many chains come of a chain of k sets, with n atoms more; a chain of no set is none
unfoldable pub chains : ℕ → ℕ → ℕ
chains zero zero = 0
chains zero (suc k) = 1
chains (suc n) zero = 0
chains (suc n) (suc k) = chains n (suc (suc k)) + chains n k

pub chains_next : (n k : ℕ) → chains (suc n) (suc k) ≡ chains n (suc (suc k)) + chains n k
unfolding chains
chains_next n k = refl

pub chains_some : (n k : ℕ) → 1 ≤ chains n (suc k)
unfolding chains
chains_some zero k = omega arith
chains_some (suc n) k = omega (arith, chains_some n (suc k))

chains_one : (k : ℕ) → chains 0 (suc k) ≡ 1
unfolding chains
chains_one k = refl

chains_none : (n : ℕ) → chains n 0 ≡ 0
unfolding chains
chains_none zero = refl
chains_none (suc n) = refl

-- the first m binomial coefficients of n together
first : ℕ → ℕ → ℕ
first n zero = 0
first n (suc m) = first n m + binomial n m

first_none : (n : ℕ) → first n 0 ≡ 0
unfolding first
first_none n = refl

first_suc : (n m : ℕ) → first n (suc m) ≡ first n m + binomial n m
unfolding first
first_suc n m = refl

first_next : (n m : ℕ) → first (suc n) (suc m) ≡ first n m + first n (suc m)
unfolding first binomial
first_next zero zero = refl
first_next (suc n) zero = refl
first_next n (suc m) = omega (arith, first_next n m)

first_of_none : (m : ℕ) → first 0 (suc m) ≡ 1
unfolding first binomial
first_of_none zero = refl
first_of_none (suc m) = omega (arith, first_of_none m)

no_chain : (n lo hi : ℕ) → lo ≡ hi → chains n 0 + first n lo ≡ first n hi
no_chain n lo hi e = omega (arith, chains_none n, ap (first n) e)

-- The chains that come of k sets are the coefficients from the lo-th on and before the hi-th, k of them around the middle: Pascal's rule on both sides.
chains_first : (n k lo hi : ℕ) → lo ≡ (n + 1 - k) / 2 → hi ≡ (n + 1 + k) / 2 → chains n k + first n lo ≡ first n hi
chains_first zero zero lo hi p q = no_chain 0 lo hi (omega arith)
chains_first (suc n) zero lo hi p q = no_chain (suc n) lo hi (omega arith)
chains_first zero (suc k) lo zero p q = absurd (omega arith)
chains_first zero (suc k) zero (suc h) p q = omega (arith, chains_one k, first_none 0, first_of_none h)
chains_first zero (suc k) (suc l) (suc h) p q = absurd (omega arith)
chains_first (suc n) (suc k) lo zero p q = absurd (omega arith)
chains_first (suc n) (suc k) zero (suc h) p q =
    omega (
      arith,
      chains_next n k,
      first_next n h,
      first_none n,
      first_none (suc n),
      chains_first n (suc (suc k)) 0 (suc h) (omega arith) (omega arith),
      chains_first n k 0 h (omega arith) (omega arith),
    )
chains_first (suc n) (suc k) (suc l) (suc h) p q =
    omega (
      arith,
      chains_next n k,
      first_next n h,
      first_next n l,
      chains_first n (suc (suc k)) l (suc h) (omega arith) (omega arith),
      chains_first n k (suc l) h (omega arith) (omega arith),
    )

-- the chains that come of one set
pub chains_middle : (n : ℕ) → chains n 1 ≡ middle_binomial n
chains_middle n = omega (arith, chains_first n 1 (n / 2) (suc (n / 2)) (omega arith) (omega arith), first_suc n (n / 2))
