-- The reader's loops: what one command more does to the place that is reached.
use Rattle.reading.proofs.Prelude.{◌≡◌, refl, ap, sym, ◌∙◌, subst, List, [], ◌∷◌, true, false, true≢false, not, ℕ, suc, min, ◌+◌, ◌-◌, ◌≤◌, ◌<◌, arith}
use Rattle.reading.proofs.Prelude.{dec_lt, length, drop, get_or, length-drop, drop-drop, T, eqb, has_key, OneOf, miss, tag_of, Fitting, empty_plan, Kind}
use Rattle.reading.proofs.Prelude.{single, sizes, usage, edge, end, order_of, earliest_behind, count, command_at, carrying, onward, step_of, walk, reading}
use Rattle.reading.proofs.Prelude.{accepted, refused, command_bytes, place_at, kind_of_step, Reached, Plan, Command, Count, Given}
use Rattle.reading.proofs.Prelude.{Table, Rule, Use, Unit as UnitOf, Edge, Show, End, Fault as Faulty}
use Rattle.reading.specs.contracts.command.Command.{the_type}
use Rattle.reading.proofs.Commands.{InPlace, Unstopped, Front, unstopped, stopped, front, plan_of, adds, goes_on_lem, step_kind, step_adds, Leads}
use Rattle.reading.proofs.CommandKinds.{each_kind, order_end, none_behind}
use Rattle.reading.proofs.Edges.{NewEdge, not_bad_edge}
use Rattle.reading.proofs.Uses.{NewUse, not_bad_use}
use Rattle.reading.proofs.Limits.{empty_fits, leads_grown}
use Rattle.reading.proofs.Walk.{walk_on, walk_ended}
use Rattle.plan.specs.declared.fault.Fault.{Fault}
use Rattle.reading.specs.declared.reader.Progress.{Progress}

-- ---- the order of kinds

-- once a command of kind k is read, none of an earlier kind than may come behind it is in place
in_order : (p : Plan) (k j : Kind) → 0 < count p k → InPlace p j → order_of (earliest_behind k) ≤ order_of j
in_order p k j h i = go (dec_lt (order_of j) (order_of (earliest_behind k)))
  where
    go : Dec (order_of j < order_of (earliest_behind k)) → order_of (earliest_behind k) ≤ order_of j
    go (yes l) = absurd (omega (arith, none_behind p (order_of j) i.on_time k l))
    go (no l) = omega arith

past_after : (p : Plan) (k : Kind) → 0 < count p k → (at : ℕ) (s : List ℕ)
    → order_of (earliest_behind k) ≤ order_of (kind_of_step (step_of p (command_at p at s)))
past_after p k h at s = go (front p at s)
  where
    go : Front p at s → order_of (earliest_behind k) ≤ order_of (kind_of_step (step_of p (command_at p at s)))
    go (unstopped j u) = rw (u.command, step_kind p j u.operands) (in_order p k j h u.in_place)
    go (stopped f e) = rw e (order_end (earliest_behind k))

-- a command that goes on was stopped by no row
leads : (p : Plan) (at : ℕ) (s : List ℕ) (k : Kind) (q : Plan) → step_of p (command_at p at s) ≡ onward k q → Leads k p at s q
leads p at s k q e = go (front p at s)
  where
    is : (j : Kind) (u : Unstopped j p at s) → step_of p (carrying j u.operands) ≡ onward k q → Leads k p at s q
    is j u t =
        let same : j ≡ k = sym (step_kind p j u.operands) ∙ ap kind_of_step t in
        let more : adds j ≡ true = sym (step_adds p j u.operands) ∙ ap goes_on_lem t in
        let there : Leads j p at s q = record { read = u; more = more; is = ap plan_of t } in
        subst (λ (i : Kind). Leads i p at s q) same there

    go : Front p at s → Leads k p at s q
    go (unstopped j u) = is j u (ap (step_of p) (sym u.command) ∙ e)
    go (stopped f z) = absurd (true≢false (sym (ap goes_on_lem (ap (step_of p) (sym z) ∙ e))))

-- ---- one turn of a loop

-- the place behind one command more
pub record Taken (k : Kind) (bytes : List ℕ) (r : Progress) (q : Plan) : Type 0 where
  pub leads : Leads k r.plan r.at (drop r.at bytes) q
  pub inside : r.at + command_bytes k ≤ length bytes
  pub reached : Reached (earliest_behind k) bytes (place_at bytes q (r.at + command_bytes k))

pub taken : (k : Kind) (bytes : List ℕ) (r : Progress) (x : Command) (q : Plan) → Reached k bytes r → r.command ≡ x
    → step_of r.plan x ≡ onward k q → Taken k bytes r q
taken k bytes r x q R e t =
    let at = r.at in
    let size = command_bytes k in
    let step : step_of r.plan (command_at r.plan at (drop at bytes)) ≡ onward k q =
    ap (step_of r.plan) (sym R.command_there ∙ e) ∙ t in
    let m = leads r.plan at (drop at bytes) k q step in
    let more = leads_grown r.plan q at (drop at bytes) k m in
    let whole : length (drop at bytes) ≡ suc (length m.read.operands) = ap length m.read.bytes in
    let inside : at + size ≤ length bytes = omega (arith, length-drop at bytes, m.read.long, R.within) in
    record {
      leads = m;
      inside = inside;
      reached =
          record {
            fitting = more.fitting R.fitting;
            within = inside;
            few_edges = omega (arith, R.few_edges, more.few_edges);
            command_there = refl;
            past = past_after q k more.some (at + size) (drop (at + size) bytes);
            same = ap (walk q (at + size) 0) (sym (drop-drop size at bytes)) ∙ sym (walk_on r.plan at (drop at bytes) k q step) ∙ R.same;
          };
    }

-- an EDGE that no row stops is new
pub edge_there : (p : Plan) (at : ℕ) (s : List ℕ) (u v : ℕ) → Unstopped edge p at s → command_at p at s ≡ Edge u v → NewEdge p u v
unfolding carrying
edge_there p at s u v l e =
    let same : Edge (get_or l.operands 0 0) (get_or l.operands 1 0) ≡ Edge u v = sym l.command ∙ e in
    let is-u : get_or l.operands 0 0 ≡ u = cc in
    let is-v : get_or l.operands 1 0 ≡ v = cc in
    rw (is-u, is-v) at (not_bad_edge p (get_or l.operands 0 0) (get_or l.operands 1 0) l.right.0)

-- a USE that no row stops is new
pub use_there : (p : Plan) (at : ℕ) (s : List ℕ) (r t sign : ℕ) → Unstopped usage p at s → command_at p at s ≡ Use r t sign → NewUse p r t sign
unfolding carrying
use_there p at s r t sign l e =
    let same : Use (get_or l.operands 0 0) (get_or l.operands 1 0) (get_or l.operands 2 0) ≡ Use r t sign = sym l.command ∙ e in
    let is_r : get_or l.operands 0 0 ≡ r = cc in
    let is-t : get_or l.operands 1 0 ≡ t = cc in
    let is-sign : get_or l.operands 2 0 ≡ sign = cc in
    rw (is_r, is-t, is-sign) at (not_bad_use p (get_or l.operands 0 0) (get_or l.operands 1 0) (get_or l.operands 2 0) l.right.0)

abbrev pub Turn : {k : Kind} {bytes : List ℕ} {r : Progress} → Reached k bytes r → Type 0
Turn {k} {bytes} {r} R = (q : Plan) × Taken k bytes r q

-- the next turn: p and next are the record and the place that the code has then
module _ {k : Kind} {bytes : List ℕ} {r : Progress} {q : Plan} (t : Taken k bytes r q) (p : Plan) (e : p ≡ q) where
  pub taken_fits : Fitting p
  taken_fits = rw e t.reached.fitting

  pub taken_there : (next : Progress) → next ≡ place_at bytes p (r.at + command_bytes k) → Reached (earliest_behind k) bytes next
  taken_there next f = rw (f, e) t.reached

  pub taken_less : (next : Progress) → next ≡ place_at bytes p (r.at + command_bytes k) → length bytes - next.at < length bytes - r.at
  taken_less next f = let z : next.at ≡ r.at + command_bytes k = ap (λ (x : Progress). x.at) f in omega (arith, t.inside)

-- the same, as the code finds it: the command that was read, and the record behind it
module _ (k : Kind) {bytes : List ℕ} {r : Progress} {x : Command} {p q : Plan} (R : Reached k bytes r) (c : r.command ≡ x) (e : p ≡ q)
    (s : step_of r.plan x ≡ onward k q) where
  pub next_fits : Fitting p
  next_fits = taken_fits (taken k bytes r x q R c s) p e

  pub next_there : {next : Progress} → next ≡ place_at bytes p (r.at + command_bytes k) → Reached (earliest_behind k) bytes next
  next_there {next} f = taken_there (taken k bytes r x q R c s) p e next f

  pub next_less : {next : Progress} → next ≡ place_at bytes p (r.at + command_bytes k) → length bytes - next.at < length bytes - r.at
  next_less {next} f = taken_less (taken k bytes r x q R c s) p e next f

pub place_is : (bytes : List ℕ) (taken : Plan) (at : ℕ) (x : Command) → x ≡ command_at taken at (drop at bytes)
    → ◌≡◌ {A = Progress} (record { plan = taken; at = at; command = x }) (place_at bytes taken at)
place_is bytes taken at x e = ap (λ (y : Command). record { plan = taken; at = at; command = y }) e

-- nothing is read yet
pub start : (bytes : List ℕ) (q : Plan) (r : Progress) → q ≡ empty_plan → r ≡ place_at bytes q 0 → Reached (single sizes) bytes r
unfolding empty_plan reading
start bytes q r e f =
    rw (f, e)
    (record {
      fitting = empty_fits;
      within = omega arith;
      few_edges = omega arith;
      command_there = refl;
      past = omega arith;
      same = refl;
    })

-- ---- the end of a loop

-- the tags of commands are in the order of kinds, and that of a fault comes last
abbrev FAULT : ℕ
FAULT = suc (order_of end)

tag_order : (p : Plan) (x : Command) → order_of (kind_of_step (step_of p x)) ≡ min (order_of end) (tag_of the_type x)
tag_order p (Count rules units edges) = refl
tag_order p (Given word) = refl
tag_order p (Table inputs truth) = refl
tag_order p (Rule head positive negative) = refl
tag_order p (Use r t sign) = refl
tag_order p (UnitOf word) = refl
tag_order p (Edge u v) = refl
tag_order p (Show word) = refl
tag_order p End = refl
tag_order p (Faulty f) = refl

-- all tags but one: what is known of a command that is none of that kind
abbrev tags_but : ℕ → List ℕ
tags_but t = but (0 ∷ 1 ∷ 2 ∷ 3 ∷ 4 ∷ 5 ∷ 6 ∷ 7 ∷ 8 ∷ 9 ∷ [])
  where
    but : List ℕ → List ℕ
    but [] = []
    but (x ∷ xs) = elim (eqb x t) [ true ↦ but xs | false ↦ x ∷ but xs ]

-- a command that the loop of kind k did not take is of a later kind
pub passed_by : (k next : Kind) (bytes : List ℕ) (r : Progress) → Reached k bytes r → OneOf (tags_but (order_of k)) (tag_of the_type r.command)
    → order_of next ≡ suc (order_of k) → Reached next bytes r
passed_by k next bytes r R o n =
    let left_out : T (not (has_key (tags_but (order_of k)) (order_of k))) =
    subst T (sym (each_kind (λ j. not (has_key (tags_but (order_of j)) (order_of j))) refl k)) tt in
    let other : ¬ (tag_of the_type r.command ≡ order_of k) =
    λ e. miss (tags_but (order_of k)) (order_of k) left_out (subst (OneOf (tags_but (order_of k))) e o) in
    record {
      fitting = R.fitting;
      within = R.within;
      few_edges = R.few_edges;
      command_there = R.command_there;
      past = omega (arith, R.past, tag_order r.plan r.command, order_end next);
      same = R.same;
    }

-- behind all EDGEs and the SHOW stands END or a fault
module _ (bytes : List ℕ) (r : Progress) (R : Reached end bytes r) where
  at-end : (x : Command) → OneOf (tags_but FAULT) (tag_of the_type x) → order_of end ≤ order_of (kind_of_step (step_of r.plan x)) → x ≡ End
  at-end (Count rules units edges) o h = absurd (omega arith)
  at-end (Given word) o h = absurd (omega arith)
  at-end (Table inputs truth) o h = absurd (omega arith)
  at-end (Rule head positive negative) o h = absurd (omega arith)
  at-end (Use r t sign) o h = absurd (omega arith)
  at-end (UnitOf word) o h = absurd (omega arith)
  at-end (Edge u v) o h = absurd (omega arith)
  at-end (Show word) o h = absurd (omega arith)
  at-end End o h = refl
  at-end (Faulty f) o h = absurd (miss (tags_but FAULT) FAULT tt o)

  there : (x : Command) → r.command ≡ x → step_of r.plan (command_at r.plan r.at (drop r.at bytes)) ≡ step_of r.plan x
  there x e = ap (step_of r.plan) (sym R.command_there ∙ e)

  pub accepted_here : OneOf (tags_but FAULT) (tag_of the_type r.command) → accepted r.plan ≡ reading bytes
  accepted_here o = sym (walk_ended r.plan r.at _ (accepted r.plan) (there End (at-end r.command o R.past))) ∙ R.same

  pub refused_here : (f : Fault) → r.command ≡ Faulty f → refused f ≡ reading bytes
  refused_here f e = sym (walk_ended r.plan r.at _ (refused f) (there (Faulty f) e)) ∙ R.same
