-- The scores: a tally that is a part of the memory.
use Rattle.learning.proofs.Prelude.{◌≡◌, sym, ap, ◌∙◌, List, ◌++◌, ◌⊎◌, inl, inr, ℕ, ◌+◌, ◌-◌, ◌≤◌, ◌<◌, arith}
use Rattle.learning.proofs.Prelude.{length, get_or, take, drop, get_or-append, get_or-take, get_or-drop, length-take-le, take_at, drop_at, mid_of}
use Rattle.learning.proofs.Prelude.{post_of, put_mid, mid_len, drop_put, SCORES, SCORE_PLACES, MEMORY_WORDS}
use Rattle.atoms.specs.Tally.{Tallied}
use Rattle.learning.specs.Trail.{Scored}

-- ---- scores

pub scored_part : (memory part : List ℕ) (which : ℕ) → MEMORY_WORDS ≤ length memory → Tallied which (mid_of SCORES SCORE_PLACES memory) part
    → Scored which memory (put_mid SCORES SCORE_PLACES memory part)
scored_part memory part which l c = record {
  scores = rw here c;
  others = λ i h. other i h;
}
  where
    long : length part ≡ SCORE_PLACES
    long = c.same_length ∙ mid_len SCORES MEMORY_WORDS memory l

    before : length (take SCORES memory) ≡ SCORES
    before = length-take-le SCORES memory (omega (arith, l))

    here : take SCORE_PLACES (drop SCORES (put_mid SCORES SCORE_PLACES memory part)) ≡ part
    here =
        ap (take SCORE_PLACES) (drop_at (take SCORES memory) (part ++ post_of SCORES SCORE_PLACES memory) SCORES before)
        ∙ take_at part (post_of SCORES SCORE_PLACES memory) SCORE_PLACES long

    other : (i : ℕ) → i < SCORES ⊎ (MEMORY_WORDS ≤ i) → get_or (put_mid SCORES SCORE_PLACES memory part) i 0 ≡ get_or memory i 0
    other i (inl h) =
        get_or-append (take SCORES memory) (part ++ post_of SCORES SCORE_PLACES memory) 0 i (omega (arith, h, before))
        ∙ get_or-take SCORES memory i 0 h
    other i (inr h) =
        ap (λ (k : ℕ). get_or (put_mid SCORES SCORE_PLACES memory part) k 0) (sym back)
        ∙ sym (get_or-drop MEMORY_WORDS (put_mid SCORES SCORE_PLACES memory part) (i - MEMORY_WORDS) 0)
        ∙ ap (λ (m : List ℕ). get_or m (i - MEMORY_WORDS) 0) (drop_put SCORES MEMORY_WORDS memory part (omega arith) l long)
        ∙ get_or-drop MEMORY_WORDS memory (i - MEMORY_WORDS) 0 ∙ ap (λ (k : ℕ). get_or memory k 0) back
      where
        back : MEMORY_WORDS + (i - MEMORY_WORDS) ≡ i
        back = omega (arith, h)
