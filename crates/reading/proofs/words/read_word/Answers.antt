-- The eight bytes from `at` on spell the word.
use Rattle.reading.proofs.Prelude.{◌≡◌, ap, ◌∙◌, ◌+◌, ◌-◌, ℕ, arith, take, drop, spelled, word_at, WORD_BYTES}
use Rattle.reading.proofs.Numbers.{machine_word}
use Rattle.reading.proofs.words.read_word.Goals as goal

pub returns : goal.returns
unfolding word_at
returns c =
    let eight : c.args.at + WORD_BYTES - c.args.at ≡ WORD_BYTES = omega arith in
    c.from_le_bytes.ensures ∙ machine_word _ c.copy_from_slice.ensures.len ∙ ap spelled c.copy_from_slice.ensures.after
    ∙ ap (λ (n : ℕ). spelled (take n (drop c.args.at c.args.operands.now))) eight
