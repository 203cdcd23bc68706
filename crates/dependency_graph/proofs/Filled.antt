-- Tables filled word by word, from the front.
use Rattle.dependency_graph.proofs.Prelude.{◌≡◌, refl, ◌∙◌, List, ℕ, ◌+◌, ◌≤◌, ◌<◌, arith, ℕ_discrete, length, get_or, set, length-set, get_or-set_same}
use Rattle.dependency_graph.proofs.Prelude.{get_or-set_other, FilledFirst}

-- ---- while it is filled

-- of n words, for which there is room, the first i are filled
pub record Filling (n i : ℕ) (f : ℕ → ℕ) (before after : List ℕ) : Type 0 where
  pub room : n ≤ length before
  pub within : i ≤ n
  pub so_far : FilledFirst i f before after

pub filling_start : {n : ℕ} {f : ℕ → ℕ} {xs : List ℕ} → n ≤ length xs → Filling n 0 f xs xs
filling_start l = record {
  room = l;
  within = omega arith;
  so_far = record { same_length = refl; filled = λ i k. absurd (omega arith); kept = λ i k. refl };
}

-- a word that is not reached yet is as it came
pub unreached : {n i : ℕ} {f : ℕ → ℕ} {before after : List ℕ} → Filling n i f before after → get_or after i 0 ≡ get_or before i 0
unreached {i = i} t = t.so_far.kept i (omega arith)

-- one word more
pub filling_more : {n i v : ℕ} {f : ℕ → ℕ} {before after : List ℕ} → Filling n i f before after → i < n → v ≡ f i
    → Filling n (i + 1) f before (set after i v)
filling_more {n} {i} {v} {f} {before} {after} t l e = record {
  room = t.room;
  within = omega arith;
  so_far = record {
    same_length = length-set after i v ∙ t.so_far.same_length;
    filled = λ j k. at j k (ℕ_discrete j i);
    kept = λ j k. get_or-set_other after i j v 0 (λ q. absurd (omega arith)) ∙ t.so_far.kept j (omega arith);
  };
}
  where
    at : (j : ℕ) → j < i + 1 → Dec (j ≡ i) → get_or (set after i v) j 0 ≡ f j
    at j k (yes q) = rw q (get_or-set_same after i v 0 (omega (arith, t.room, t.so_far.same_length)) ∙ e)
    at j k (no q) = get_or-set_other after i j v 0 q ∙ t.so_far.filled j (omega arith)

pub filling_end : {n i : ℕ} {f : ℕ → ℕ} {before after : List ℕ} → Filling n i f before after → n ≤ i → FilledFirst n f before after
filling_end t l = record {
  same_length = t.so_far.same_length;
  filled = λ j k. t.so_far.filled j (omega (arith, t.within));
  kept = λ j k. t.so_far.kept j (omega (arith, t.within));
}

-- ---- once it is filled

-- the same table, its words given otherwise
pub filled_same : {n : ℕ} {f : ℕ → ℕ} {before after : List ℕ} → FilledFirst n f before after → (g : ℕ → ℕ)
    → ((i : ℕ) → i < n → f i ≡ g i) → FilledFirst n g before after
filled_same t g e = record {
  same_length = t.same_length;
  filled = λ i l. t.filled i l ∙ e i l;
  kept = t.kept;
}

-- a table filled again
pub filled_again : {n : ℕ} {f g : ℕ → ℕ} {xs ys zs : List ℕ} → FilledFirst n f xs ys → FilledFirst n g ys zs → FilledFirst n g xs zs
filled_again s t = record {
  same_length = t.same_length ∙ s.same_length;
  filled = t.filled;
  kept = λ i l. t.kept i l ∙ s.kept i l;
}

pub filled_itself : {n : ℕ} {f : ℕ → ℕ} {before after : List ℕ} → FilledFirst n f before after → FilledFirst n f after after
filled_itself t = record { same_length = refl; filled = t.filled; kept = λ i l. refl }
