-- A decoded step is one that there is.
use Rattle.propagating.proofs.Prelude.{ℕ}
use Rattle.propagating.specs.Step.{Decoded, IsStep}
use Rattle.propagating.specs.declared.step.Step.{Step}

pub decoded_step : (n : ℕ) (s : Step) → Decoded n s → IsStep s
decoded_step n s d = record {
  rule = λ r e. (rw e at d).0;
  atom = λ a e. (rw e at d).0;
  list = λ v e. (rw e at d).0;
  table = λ t e. (rw e at d).0;
  pair = λ i e. (rw e at d).0;
}
