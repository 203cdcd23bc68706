-- A fault's number fits 16 bits.
use Rattle.plan.proofs.Prelude.{ap₂, ◌∙◌, arith, code_of}
use Rattle.plan.proofs.Faults.{number_fits}
use Rattle.plan.proofs.fault.refusal_code.Goals as goal

pub code_of-requires : goal.code_of-requires
code_of-requires c = omega (arith, c.fault_number.ensures, number_fits c.args.fault)

pub returns : goal.returns
returns c = c.code_of.ensures ∙ ap₂ code_of c.fault_number.ensures c.fault_spot.ensures
