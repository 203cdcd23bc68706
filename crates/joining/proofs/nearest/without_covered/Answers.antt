-- One unit fewer, or all.
use Rattle.joining.proofs.Prelude.{sym, subst, ℕ, ◌^◌, ◌<◌, Has, atom, without_left, without_fits, MAX_UNITS}
use Rattle.joining.proofs.nearest.without_covered.Goals as goal

pub is_covered-requires : goal.is_covered-requires
is_covered-requires c =
    (c.requires.0, subst (λ (w : ℕ). w < 2 ^ MAX_UNITS) (sym c.drop-others.ensures) (without_fits c.args.units (atom c.args.v) MAX_UNITS c.requires.1))

pub returns-then-is_covered : goal.returns-then-is_covered
returns-then-is_covered c = record { each = λ i h. without_left c.args.units (atom c.args.v) (subst (λ (w : ℕ). Has w i) c.drop-others.ensures h) }
