-- The words below TABLE_WORDS are zeros, and those behind them are as they were.
use Rattle.std.proofs.Common.{length-take-le}
use Rattle.unit_lists.proofs.Prelude.{◌≡◌, ap, ◌∙◌, ◌++◌, List, ℕ, length, take, drop, replicate, arith, TABLE_WORDS}
use Rattle.demands.specs.LentTable.{cleared}
use Rattle.unit_lists.proofs.table.clear.Goals as goal

pub returns : goal.returns
unfolding cleared
returns c =
    let long : length (take TABLE_WORDS c.args.table.now) ≡ TABLE_WORDS = omega (arith, length-take-le TABLE_WORDS c.args.table.now c.requires) in
    ap (λ (l : List ℕ). l ++ drop TABLE_WORDS c.args.table.now) (c.fill.ensures.after (λ y e. e) ∙ ap (λ (n : ℕ). replicate n 0) long)
