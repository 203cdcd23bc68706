-- How a search comes to a state, and that it goes on from none in which a rule is at a stop (document 02, S-7).
use Rattle.std.specs.Prelude.{◌≡◌, Bool, List, ℕ, ◌<◌}
use Rattle.atoms.specs.Word.{ATOMS}
use Rattle.states.specs.Narrowing.{Overlaps, Within, Narrows, branch_of}
use Rattle.states.specs.declared.state.State.{State}
use Rattle.narrowing.specs.Stops.{NoStop}
use Rattle.learning.specs.Reason.{Remembers}
use Rattle.propagating.specs.Context.{WiredIn, FilteredIn}
use Rattle.propagating.specs.declared.context.Context.{Context}
use Rattle.searching.specs.Outlook.{Leaves}
use Rattle.searching.specs.declared.node.Branch.{Branch}
use Rattle.searching.specs.declared.node.Node.{Node}

-- a node stands behind its branch: the same members complete its state, and `next` is what that state leaves to search
pub record Entered (cx : Context) (branch : Branch) (memory filter : List ℕ) (node : Node) : Type 0 where
  pub same : node
      ≡ record {
        shown = branch.shown;
        count = branch.count;
        way = node.way;
        front = node.front;
        next = node.next;
      }
  pub narrows : Narrows (WiredIn cx) branch.front.state node.front.state
  pub filtered : FilteredIn cx node.front.state filter
  pub remembers : Remembers (WiredIn cx) memory
  pub leaves : Leaves cx.rules.now cx.unit.rules node.front.state node.next

-- one atom further: it is decided where no rule of the word is at a stop
pub record GoesOn (rules : List ℕ) (which : ℕ) (from to : State) : Type 0 where
  pub no_stop : NoStop rules which from
  pub atom : ℕ
  pub is_atom : atom < ATOMS
  pub phase : Bool
  pub decided : to ≡ branch_of from atom phase

-- one step of a way down: it goes on, and steps are taken behind that; or it ends, where nothing completes its state
pub data WentDown (rules : List ℕ) (which : ℕ) (from to : State) : Type 0 where
  further : {next : State} → GoesOn rules which from next → Within next to → WentDown rules which from to
  ended : Overlaps to → WentDown rules which from to
