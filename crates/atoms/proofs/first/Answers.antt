use Rattle.atoms.proofs.Prelude.{arith, ap, sym, ℕ, ◌-◌, ◌^◌, ◌<◌, pow_pos, below}
use Rattle.atoms.proofs.Face.{shifted_one}
use Rattle.atoms.proofs.first.Goals as goal

pub returns-then-n-eq-ATOMS : goal.returns-then-n-eq-ATOMS
unfolding below
returns-then-n-eq-ATOMS c = ap (λ (n : ℕ). 2 ^ n - 1) (sym c.if-n-eq-ATOMS.true)

pub overflow_sub-result : goal.overflow_sub-result
overflow_sub-result c =
    let inside : c.args.n < 64 = omega arith in
    omega (arith, shifted_one c.args.n inside, pow_pos c.args.n)

pub returns : goal.returns
unfolding below
returns c =
    let inside : c.args.n < 64 = omega arith in
    ap (λ (x : ℕ). x - 1) (shifted_one c.args.n inside)
