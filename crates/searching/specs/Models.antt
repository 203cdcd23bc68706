-- Inner: the job of the subset test: a unit whose atoms all are inputs. All of a position are then facts, so that nothing smaller is asked for, and who
-- belongs to its list is who satisfies its rules.
use Rattle.std.specs.Prelude.{◌≡◌, false, List, ℕ}
use Rattle.atoms.specs.Word.{EVERY_ATOM, Has}
use Rattle.states.specs.Narrowing.{Narrows, Wanted, branch_of}
use Rattle.states.specs.declared.state.State.{State}
use Rattle.pilots.specs.Linked.{NoPilots}
use Rattle.propagating.specs.Desk.{pilots_of}
use Rattle.propagating.specs.declared.unit.Job.{Job}
use Rattle.searching.specs.declared.subsets.WithoutAtom.{WithoutAtom}
use Rattle.searching.specs.declared.subsets.WithoutAtom.TheVariants.{Set, Known}

-- every atom is an input, there is no list to join, and no table has a pilot
pub record ModelJob (desk : List ℕ) (unit : Job) : Type 0 where
  pub every : unit.inputs ≡ EVERY_ATOM
  pub alone : unit.predecessors ≡ 0
  pub no_list : unit.nearest ≡ 0
  pub no_pilots : NoPilots (pilots_of desk)

-- the job of satisfying these rules
abbrev pub models_of : ℕ → Job
models_of which = record { rules = which; inputs = EVERY_ATOM; predecessors = 0; nearest = 0 }

-- a position with K that completes the state without the atom; else none does, and the new state has the atom up and loses no position with K
abbrev pub Asks : (ℕ → Type 0) → State → ℕ → WithoutAtom → Type 0
Asks K t i (Set M) = Wanted K (branch_of t i false) M
Asks K t i (Known u) = Narrows K t u × Has u.up i
