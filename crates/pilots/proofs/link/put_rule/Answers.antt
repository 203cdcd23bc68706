-- Each word has its place, and writing one leaves room for the others.
use Rattle.pilots.proofs.Prelude.{List, ℕ, ◌+◌, arith, set, rule_at}
use Rattle.pilots.proofs.Face.{room}
use Rattle.pilots.proofs.link.put_rule.Goals as goal

pub bounds-linked-at-2 : goal.bounds-linked-at-2
bounds-linked-at-2 c = room c.args.linked.now _ _ (omega arith)

pub bounds-linked-at-3 : goal.bounds-linked-at-3
bounds-linked-at-3 c =
    let first : List ℕ = set c.args.linked.now (rule_at c.args.rule) c.args.head in
    room first _ _ (room c.args.linked.now _ _ (omega arith))

pub bounds-linked-at-4 : goal.bounds-linked-at-4
bounds-linked-at-4 c =
    let first : List ℕ = set c.args.linked.now (rule_at c.args.rule) c.args.head in
    let first : List ℕ = set c.args.linked.now (rule_at c.args.rule) c.args.head in
    let second : List ℕ = set first (rule_at c.args.rule + 1) c.args.positive in
    room second _ _ (room first _ _ (room c.args.linked.now _ _ (omega arith)))
