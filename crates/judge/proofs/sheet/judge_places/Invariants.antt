-- The positions passed so far are answer sets (Passed), and the memo keeps its promise.
use Rattle.judge.proofs.Face.{Passed}
use Rattle.answer_sets.specs.Memo.{Memo}
use Rattle.judge.proofs.sheet.judge_places.Given as goal

abbrev pub invariant-loop-place : goal.invariant-loop-place
invariant-loop-place l = Passed l.plan l.positions l.place × Memo l.plan.rules l.memo
