-- The candidates of the subset test: free atoms of the head where there are some, else those of the body.
use Rattle.answer_sets.proofs.Prelude.{◌≡◌, sym, List, ℕ, ◌<◌, ◌^◌, ATOMS, Has, ◌∩◌, ◌∪◌, SomeOf, has_none, some_atom, has_lt, has_cut, cut_left}
use Rattle.answer_sets.proofs.Prelude.{has_left, has_right, lent, looks, InRule, in_head, in_positive, in_looks, Candidates}

module _ (rules : List ℕ) (r free : ℕ) {head v : ℕ} (reads : head ≡ (lent rules).head r) (cuts : v ≡ free ∩ head) where
  pub candidates_head : ¬ (v ≡ 0) → Candidates rules r free v
  candidates_head n = record {
    within = record { each = λ i h. cut_left free head (rw cuts at h) };
    none_left = λ z. absurd (n z);
  }

  pub candidates_body : {positive looked body w : ℕ} → v ≡ 0 → positive ≡ (lent rules).positive r → looked ≡ looks rules r
      → head < 2 ^ ATOMS → positive < 2 ^ ATOMS → looked < 2 ^ ATOMS → body ≡ positive ∪ looked → w ≡ free ∩ body
      → Candidates rules r free w
  candidates_body {positive} {looked} {body} {w} none pos neg hf pf nf e f = record {
    within = record { each = λ i h. cut_left free body (rw f at h) };
    none_left = go;
  }
    where
      -- an atom that is in no free atoms of a word is not free
      gone : {part all : ℕ} → all ≡ free ∩ part → all ≡ 0 → {i : ℕ} → Has part i → ¬ Has free i
      gone {part} c z h k = has_none (rw (← c, z) at (has_cut free part k h))

      go : w ≡ 0 → (i : ℕ) → InRule rules r i → (i < ATOMS) × ¬ Has free i
      go z i (in_head h) = let k = rw (sym reads) at h in (has_lt head ATOMS hf k, gone cuts none k)
      go z i (in_positive h) =
          let k = rw (sym pos) at h in (has_lt positive ATOMS pf k, gone f z (rw e (has_left positive looked k)))
      go z i (in_looks h) =
          let k = rw (sym neg) at h in (has_lt looked ATOMS nf k, gone f z (rw e (has_right positive looked k)))

-- where some of the free atoms are chosen there are free ones
pub some_free : {free w : ℕ} → SomeOf free w → ¬ (free ≡ 0)
some_free {free} {w} s z = let i = some_atom w s.some in has_none (rw z at (s.within.each i.0 i.1))
