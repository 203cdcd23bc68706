-- Parities: of the atoms that are in one of two words.
use Rattle.parities.proofs.Prelude.{◌≡◌, ap, ◌⊎◌, inl, inr, ℕ, ◌+◌, ◌*◌, ◌%◌, ◌<◌, arith, ones, Has, Apart, ◌∩◌, ◌∪◌, ◌∖◌, has_cut, cut_left}
use Rattle.parities.proofs.Prelude.{cut_right, has_left, has_right, union_cases, has_without, without_left, without_right, ext, odd, ◌△◌}
use Rattle.parities.proofs.CountedWords.{count_parts, count_apart, cut_swap}

pub odd_lt : (w : ℕ) → odd w < 2
unfolding odd
odd_lt w = omega arith

count_twice : (a b : ℕ) → ones (a △ b) + 2 * ones (a ∩ b) ≡ ones a + ones b
unfolding ◌△◌
count_twice a b = omega (arith, count_parts a b, count_parts b a, count_apart (a ∖ b) (b ∖ a) parts, ap ones (cut_swap b a))
  where
    parts : Apart (a ∖ b) (b ∖ a)
    parts = record { none = λ i p q. without_right a b p (without_left b a q) }

cut_sum : (N a b : ℕ) → N ∩ (a △ b) ≡ (N ∩ a) △ (N ∩ b)
unfolding ◌△◌
cut_sum N a b =
    ext (N ∩ ((a ∖ b) ∪ (b ∖ a))) (((N ∩ a) ∖ (N ∩ b)) ∪ ((N ∩ b) ∖ (N ∩ a)))
    (λ i h. there i (cut_left N _ h) (union_cases (a ∖ b) (b ∖ a) (cut_right N _ h)))
    (λ i h. back i (union_cases ((N ∩ a) ∖ (N ∩ b)) ((N ∩ b) ∖ (N ∩ a)) h))
  where
    there : (i : ℕ) → Has N i → Has (a ∖ b) i ⊎ Has (b ∖ a) i → Has (((N ∩ a) ∖ (N ∩ b)) ∪ ((N ∩ b) ∖ (N ∩ a))) i
    there i n (inl h) =
        has_left ((N ∩ a) ∖ (N ∩ b)) _ (has_without (N ∩ a) (N ∩ b) (has_cut N a n (without_left a b h)) (λ q. without_right a b h (cut_right N b q)))
    there i n (inr h) =
        has_right ((N ∩ a) ∖ (N ∩ b)) _ (has_without (N ∩ b) (N ∩ a) (has_cut N b n (without_left b a h)) (λ q. without_right b a h (cut_right N a q)))

    half : (x y i : ℕ) → Has ((N ∩ x) ∖ (N ∩ y)) i → Has N i × Has (x ∖ y) i
    half x y i h =
        let p = without_left (N ∩ x) (N ∩ y) h in
        (cut_left N x p, has_without x y (cut_right N x p) (λ q. without_right (N ∩ x) (N ∩ y) h (has_cut N y (cut_left N x p) q)))

    back : (i : ℕ) → Has ((N ∩ a) ∖ (N ∩ b)) i ⊎ Has ((N ∩ b) ∖ (N ∩ a)) i → Has (N ∩ ((a ∖ b) ∪ (b ∖ a))) i
    back i (inl h) = let p = half a b i h in has_cut N _ p.0 (has_left (a ∖ b) (b ∖ a) p.1)
    back i (inr h) = let p = half b a i h in has_cut N _ p.0 (has_right (a ∖ b) (b ∖ a) p.1)

-- "parity over a sum is the sum of the parities"
pub odd_sum : (N a b : ℕ) → odd (N ∩ (a △ b)) ≡ (odd (N ∩ a) + odd (N ∩ b)) % 2
unfolding odd
odd_sum N a b = omega (arith, ap ones (cut_sum N a b), count_twice (N ∩ a) (N ∩ b))
