-- Inner: how far the reader has come: what its loops hand on to each other.
use Rattle.std.specs.Prelude.{◌≡◌, List, ℕ, ◌≤◌, length, drop}
use Rattle.plan.specs.Record.{Fitting}
use Rattle.reading.specs.Commands.{Kind, end, order_of, command_at}
use Rattle.reading.specs.Reading.{Step, onward, ended, step_of, walk, reading}
use Rattle.plan.specs.declared.record.Plan.{Plan}
use Rattle.reading.specs.declared.reader.Progress.{Progress}

-- the place at byte `at`, behind what is taken, with its command
abbrev pub place_at : List ℕ → Plan → ℕ → Progress
place_at bytes taken at = record { plan = taken; at = at; command = command_at taken at (drop at bytes) }

-- a command's kind; a fault ends reading as END does
abbrev pub kind_of_step : Step → Kind
kind_of_step (onward kind q) = kind
kind_of_step (ended r) = end

-- the reader has come to a place whose command is of this kind or one that comes later, and reading on from there gives what
-- reading from the start gives
pub record Reached (kind : Kind) (bytes : List ℕ) (r : Progress) : Type 0 where
  pub fitting : Fitting r.plan
  pub within : r.at ≤ length bytes
  pub few_edges : r.plan.edge_count ≤ r.at
  pub command_there : r.command ≡ command_at r.plan r.at (drop r.at bytes)
  pub past : order_of kind ≤ order_of (kind_of_step (step_of r.plan r.command))
  pub same : walk r.plan r.at 0 (drop r.at bytes) ≡ reading bytes
