-- The spot of a reading fault lies within the plan's bytes.
use Rattle.judge.proofs.Prelude.{◌≡◌, refl, ap, subst, Bool, true, false, List, [], ◌∷◌, Option, some, none, ℕ, suc, ◌+◌, ◌≤◌, arith, length, drop}
use Rattle.judge.proofs.Prelude.{length-drop, spot, empty_plan, Step, onward, ended, step_of, reading, command_bytes, Plan, Fault, Outcome}
use Rattle.judge.proofs.Prelude.{Refused as RefusedWith}
use Rattle.std.specs.Prelude.{Ok, Err}
use Rattle.reading.specs.Commands.{Kind, single, table, rule, usage, unit, edge, end, kind_of, carrying, command_at, Row, operand_rows, rows, first_fit}
use Rattle.reading.specs.Commands.{of_kind}
use Rattle.reading.proofs.Commands.{known_command, unknown_command, adds, step_when_lem, Leads}
use Rattle.reading.proofs.Walk.{walk_keeps}
use Rattle.plan.specs.declared.fault.Fault.TheVariants.{UnknownCommand}
use Rattle.reading.specs.declared.command.Command.{Command}

-- the fault of an outcome, if it is a refusal, has a spot of at most n
abbrev OutcomeBy : ℕ → Outcome → Type 0
OutcomeBy n (Ok u) = Unit {0}
OutcomeBy n (Err f) = spot f ≤ n

-- so has that of a command
abbrev StepBy : ℕ → Step → Type 0
StepBy n (onward k q) = Unit {0}
StepBy n (ended r) = OutcomeBy n r.outcome

abbrev RowsBy : ℕ → List Row → Type 0
RowsBy n [] = Unit {0}
RowsBy n (r ∷ rs) = (spot r.fault ≤ n) × RowsBy n rs

first_fit_by : (n : ℕ) (p : Plan) (rs : List Row) (x : Command) → RowsBy n rs → StepBy n (step_of p x) → StepBy n (step_of p (first_fit rs x))
first_fit_by n p [] x a h = h
first_fit_by n p (r ∷ rs) x a h = go r.fits refl (first_fit_by n p rs x a.1 h)
  where
    go : (b : Bool) → r.fits ≡ b → StepBy n (step_of p (first_fit rs x)) → StepBy n (step_of p (first_fit (r ∷ rs) x))
    go true t rest = rw t a.0
    go false t rest = rw t rest

operand_rows_by : (p : Plan) (at : ℕ) (k : Kind) (operands : List ℕ) → RowsBy (at + 1) (operand_rows p at k operands)
operand_rows_by p at (single s) operands = tt
operand_rows_by p at table operands = (omega arith, tt)
operand_rows_by p at rule operands = (omega arith, (omega arith, tt))
operand_rows_by p at usage operands = (omega arith, tt)
operand_rows_by p at unit operands = (omega arith, tt)
operand_rows_by p at edge operands = (omega arith, tt)
operand_rows_by p at end operands = (omega arith, (omega arith, tt))

rows_by : (p : Plan) (at : ℕ) (k : Kind) (operands : List ℕ) → RowsBy (at + 1) (rows p at k operands)
rows_by p at k operands = (omega arith, (omega arith, (omega arith, operand_rows_by p at k operands)))

carrying_by : (n : ℕ) (p : Plan) (k : Kind) (operands : List ℕ) → StepBy n (step_of p (carrying k operands))
carrying_by n p k operands = go (adds k) refl
  where
    go : (b : Bool) → adds k ≡ b → StepBy n (step_of p (carrying k operands))
    go true a = rw (step_when_lem p k operands true a) tt
    go false a = rw (step_when_lem p k operands false a) tt

-- a command's fault is spotted at its byte or the next, and where no byte is left at the end
command_by : (n : ℕ) (p : Plan) (at : ℕ) (s : List ℕ) → at + length s ≡ n → StepBy n (step_of p (command_at p at s))
unfolding command_at of_kind
command_by n p at [] l = omega arith
command_by n p at (b ∷ operands) l = go (kind_of b) refl
  where
    near : (x : Step) → StepBy (at + 1) x → StepBy n x
    near (onward k q) h = tt
    near (ended r) h = outcome r.outcome h
      where
        outcome : (o : Outcome) → OutcomeBy (at + 1) o → OutcomeBy n o
        outcome (Ok u) k = tt
        outcome (Err f) k = omega arith

    go : (x : Option Kind) → kind_of b ≡ x → StepBy n (step_of p (command_at p at (b ∷ operands)))
    go none e = let here : spot (UnknownCommand at) ≤ n = omega arith in rw (unknown_command p at b operands e) here
    go (some k) e =
        rw (known_command p at b operands k e)
        (near (step_of p (of_kind p at k operands))
        (first_fit_by (at + 1) p (rows p at k operands) (carrying k operands) (rows_by p at k operands) (carrying_by (at + 1) p k operands)))

on : (n : ℕ) (p q : Plan) (at : ℕ) (s : List ℕ) (k : Kind) → at + length s ≡ n → Leads k p at s q
    → at + command_bytes k + length (drop (command_bytes k) s) ≡ n
on n p q at s k h l =
    let whole : length s ≡ suc (length l.read.operands) = ap length l.read.bytes in
    omega (arith, l.read.long, length-drop (command_bytes k) s)

-- a reading fault's spot is at most the plan's length
pub spot_within : (bytes : List ℕ) (f : Fault) → (reading bytes).outcome ≡ RefusedWith f → spot f ≤ length bytes
unfolding reading
spot_within bytes f e =
    let n : ℕ = length bytes in
    subst (OutcomeBy n) e
    (walk_keeps (λ p at s. at + length s ≡ n) (λ r. OutcomeBy n r.outcome) (on n) (λ p at s h k n. tt)
    (λ p at s f h k. subst (StepBy n) (ap (step_of p) k) (command_by n p at s h)) empty_plan 0 bytes (omega arith))
