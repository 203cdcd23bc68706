-- A command that is no fault: its kind, that no row of the fault table fits it, and what it does to the record.
use Rattle.reading.proofs.Prelude.{◌≡◌, refl, ap, sym, ◌∙◌, List, [], ◌∷◌, Bool, true, false, true≢false, not, ◌⊎◌, inl, inr, Option, some, none, ℕ}
use Rattle.reading.proofs.Prelude.{suc, ◌+◌, ◌-◌, ◌≤◌, ◌<◌, arith, add-one, length, take, drop, get_or, length-drop, drop_of_length-le, take_all}
use Rattle.reading.proofs.Prelude.{drop-cons, eqb, eqb-true, ltb-false, leb-false, le-ltb, not-false, empty_plan, Kind, single, sizes, given, show}
use Rattle.reading.proofs.Prelude.{table, rule, usage, unit, edge, end, byte_of, kinds, kind_of, operand_bytes, order_of, carrying, Most, once, up_to}
use Rattle.reading.proofs.Prelude.{runs_out_at, most_of, count, no_room_of, full, Row, kind_rows, operand_rows, rows, first_fit, of_kind, command_at, Step}
use Rattle.reading.proofs.Prelude.{onward}
use Rattle.reading.proofs.Prelude.{ended, step_of, accepted, refused, kind_of_step, Plan, Outcome, Accepted, Refused, Truncated, UnknownCommand, Command}
use Rattle.reading.proofs.Prelude.{Fault as Faulty}
use Rattle.reading.proofs.CommandKinds.{kind_of_byte, kind_byte, byte_own, no_kind, count_behind, late_counted}
use Rattle.plan.specs.declared.fault.Fault.{Fault}

-- ---- a byte's command

module _ (p : Plan) (at b : ℕ) (operands : List ℕ) where
  pub known_command : (k : Kind) → kind_of b ≡ some k → command_at p at (b ∷ operands) ≡ of_kind p at k operands
  unfolding command_at
  known_command k t = rw (t, command_at)

  pub unknown_command : kind_of b ≡ none → command_at p at (b ∷ operands) ≡ Faulty (UnknownCommand at)
  unfolding command_at
  unknown_command t = rw (t, command_at)

-- ---- no row fits

abbrev pub Passed : List Row → Type 0
Passed [] = Unit {0}
Passed (r ∷ rs) = (r.fits ≡ false) × Passed rs

pub none_fits : (rs : List Row) (command : Command) → Passed rs → first_fit rs command ≡ command
none_fits [] command h = refl
none_fits (r ∷ rs) command h = rw h.0 (none_fits rs command h.1)

-- either no row fits, or the command is a fault
fits_or_not : (rs : List Row) (x : Command) → Passed rs ⊎ ((f : Fault) × (first_fit rs x ≡ Faulty f))
fits_or_not [] x = inl tt
fits_or_not (r ∷ rs) x = go r.fits refl (fits_or_not rs x)
  where
    go : (b : Bool) → r.fits ≡ b → Passed rs ⊎ ((f : Fault) × (first_fit rs x ≡ Faulty f))
        → Passed (r ∷ rs) ⊎ ((f : Fault) × (first_fit (r ∷ rs) x ≡ Faulty f))
    go true t rest = inr (r.fault, rw t)
    go false t (inl h) = inl (t, h)
    go false t (inr (f, e)) = inr (f, rw t e)

-- ---- rows 4 and 5

pub record InPlace (p : Plan) (k : Kind) : Type 0 where
  pub on_time : count_behind p (order_of k) kinds ≤ 0
  pub room : full p k ≡ false

-- the room that column "most" leaves behind n commands
abbrev pub Room : Most → ℕ → Type 0
Room once n = Unit {0}
Room (up_to m) n = n < m
Room (runs_out_at m) n = Unit {0}

pub room_left : (k : Kind) {p : Plan} → InPlace p k → Room (most_of k) (count p k)
room_left k {p} i = left (most_of k) i.room
  where
    left : (m : Most) → no_room_of m (count p k) ≡ false → Room m (count p k)
    left once e = tt
    left (up_to m) e = leb-false m (count p k) e
    left (runs_out_at m) e = tt

pub passed_in_place : (p : Plan) (at : ℕ) (k : Kind) → Passed (kind_rows p at k) → InPlace p k
passed_in_place p at k h = record { on_time = ltb-false _ _ (sym (late_counted p (order_of k)) ∙ h.0); room = h.1.0 }

pub in_place_passed : (p : Plan) (at : ℕ) (k : Kind) → InPlace p k → Passed (kind_rows p at k)
in_place_passed p at k h = (late_counted p (order_of k) ∙ le-ltb _ _ h.on_time, (h.room, tt))

-- ---- a command at the front of s: one that no row stops, or a fault

-- a command of the kind, read at the front of s, that no row stops
pub record Unstopped (kind : Kind) (p : Plan) (at : ℕ) (s : List ℕ) : Type 0 where
  pub operands : List ℕ
  pub bytes : s ≡ byte_of kind ∷ operands
  pub in_place : InPlace p kind
  pub long : operand_bytes kind ≤ length operands
  pub right : Passed (operand_rows p at kind operands)
  pub command : command_at p at s ≡ carrying kind operands

pub data Front (p : Plan) (at : ℕ) (s : List ℕ) : Type 0 where
  unstopped : (k : Kind) → Unstopped k p at s → Front p at s
  stopped : (f : Fault) → command_at p at s ≡ Faulty f → Front p at s

pub front : (p : Plan) (at : ℕ) (s : List ℕ) → Front p at s
unfolding command_at of_kind
front p at [] = stopped (Truncated at) refl
front p at (b ∷ operands) = go (kind_of b) refl
  where
    judged : (k : Kind) → kind_of b ≡ some k → Passed (rows p at k operands) ⊎ ((f : Fault) × (of_kind p at k operands ≡ Faulty f))
        → Front p at (b ∷ operands)
    judged k t (inr (f, e)) = stopped f (known_command p at b operands k t ∙ e)
    judged k t (inl h) =
        unstopped k
        (record {
          operands = operands;
          bytes = ap (λ (y : ℕ). y ∷ operands) (kind_byte b k t);
          in_place = passed_in_place p at k (h.0, (h.1.0, tt));
          long = ltb-false _ _ h.1.1.0;
          right = h.1.1.1;
          command = known_command p at b operands k t ∙ none_fits (rows p at k operands) (carrying k operands) h;
        })

    go : (o : Option Kind) → kind_of b ≡ o → Front p at (b ∷ operands)
    go none t = stopped (UnknownCommand at) (unknown_command p at b operands t)
    go (some k) t = judged k t (fits_or_not (rows p at k operands) (carrying k operands))

-- ---- what it does to the record

abbrev pub plan_of : Step → Plan
plan_of (onward k q) = q
plan_of (ended r) = r.plan

abbrev pub goes_on_lem : Step → Bool
goes_on_lem (onward k q) = true
goes_on_lem (ended r) = false

-- the record with a command of the kind more
abbrev pub grown : Plan → Kind → List ℕ → Plan
grown p k operands = plan_of (step_of p (carrying k operands))

-- whether a command of the kind adds to the record; END ends reading
abbrev pub adds : Kind → Bool
adds k = not (eqb (byte_of k) (byte_of end))

pub only_end : (k : Kind) → adds k ≡ false → k ≡ end
only_end k e = byte_own k end (eqb-true _ _ (not-false (eqb (byte_of k) (byte_of end)) e))

abbrev step_when : Bool → Step → Step → Step
step_when true more last = more
step_when false more last = last

-- the step of a command that carries operands
step_is : (p : Plan) (k : Kind) (operands : List ℕ)
    → step_of p (carrying k operands) ≡ step_when (adds k) (onward k (grown p k operands)) (ended (accepted p))
unfolding carrying
step_is p (single sizes) operands = refl
step_is p (single given) operands = refl
step_is p table operands = refl
step_is p rule operands = refl
step_is p usage operands = refl
step_is p unit operands = refl
step_is p edge operands = refl
step_is p (single show) operands = refl
step_is p end operands = refl

module _ (p : Plan) (k : Kind) (operands : List ℕ) where
  pub step_when_lem : (b : Bool) → adds k ≡ b → step_of p (carrying k operands) ≡ step_when b (onward k (grown p k operands)) (ended (accepted p))
  step_when_lem b a = step_is p k operands ∙ ap (λ (x : Bool). step_when x (onward k (grown p k operands)) (ended (accepted p))) a

  pub step_kind : kind_of_step (step_of p (carrying k operands)) ≡ k
  step_kind = go (adds k) refl
    where
      go : (b : Bool) → adds k ≡ b → kind_of_step (step_of p (carrying k operands)) ≡ k
      go true a = ap kind_of_step (step_when_lem true a)
      go false a = ap kind_of_step (step_when_lem false a) ∙ sym (only_end k a)

  pub step_adds : goes_on_lem (step_of p (carrying k operands)) ≡ adds k
  step_adds = ap goes_on_lem (step_is p k operands) ∙ go (adds k)
    where
      go : (b : Bool) → goes_on_lem (step_when b (onward k (grown p k operands)) (ended (accepted p))) ≡ b
      go true = refl
      go false = refl

abbrev outcome_of : Step → Outcome
outcome_of (onward k q) = Accepted
outcome_of (ended r) = r.outcome

-- what carries operands is no fault
pub not_faulty : (k : Kind) (operands : List ℕ) (f : Fault) → ¬ (carrying k operands ≡ Faulty f)
not_faulty k operands f e = go (adds k) refl
  where
    go : (b : Bool) → adds k ≡ b → ⊥
    go true a = true≢false (sym a ∙ sym (step_adds empty_plan k operands) ∙ ap (λ (x : Command). goes_on_lem (step_of empty_plan x)) e)
    go false a =
        let same : ended (accepted empty_plan) ≡ ended (refused f) = sym (step_when_lem empty_plan k operands false a) ∙ ap (step_of empty_plan) e in
        let outcome : Accepted ≡ Refused f = ap outcome_of same in
        let z : ◌≡◌ {A = ℕ} 0 1 = cc in
        omega arith

-- the command at the front of s leads from the record p to q
pub record Leads (kind : Kind) (p : Plan) (at : ℕ) (s : List ℕ) (q : Plan) : Type 0 where
  pub read : Unstopped kind p at s
  pub more : adds kind ≡ true
  pub is : grown p kind read.operands ≡ q

pub leads_step : (p : Plan) (at : ℕ) (s : List ℕ) (k : Kind) (q : Plan) → Leads k p at s q → step_of p (command_at p at s) ≡ onward k q
leads_step p at s k q l = ap (step_of p) l.read.command ∙ step_when_lem p k l.read.operands true l.more ∙ ap (onward k) l.is

-- ---- the command at byte `at` of s, as the code finds it

-- a part that goes to the end is what is left
pub rest-is : (s : List ℕ) (n : ℕ) → take (length s - n) (drop n s) ≡ drop n s
rest-is s n = take_all (length s - n) (drop n s) (omega (arith, length-drop n s))

module _ (p : Plan) (s : List ℕ) (at : ℕ) where
  pub no_byte_there : length s ≤ at → Faulty (Truncated at) ≡ command_at p at (drop at s)
  unfolding command_at
  no_byte_there h = rw (drop_of_length-le s h)

  module _ (h : at < length s) where
    at_front : (x : Command) → x ≡ command_at p at (get_or s at 0 ∷ drop (suc at) s) → x ≡ command_at p at (drop at s)
    at_front x e = e ∙ ap (command_at p at) (sym (drop-cons s at 0 h))

    pub kind_there : (k : Kind) (r : Command) → get_or s at 0 ≡ byte_of k → r ≡ of_kind p at k (take (length s - (at + 1)) (drop (at + 1) s))
        → r ≡ command_at p at (drop at s)
    kind_there k r c e =
        let t : kind_of (get_or s at 0) ≡ some k = ap kind_of c ∙ kind_of_byte k in
        let rest : take (length s - (at + 1)) (drop (at + 1) s) ≡ drop (suc at) s = rest-is s (at + 1) ∙ ap (λ (n : ℕ). drop n s) (add-one at) in
        at_front r (e ∙ ap (of_kind p at k) rest ∙ sym (known_command p at (get_or s at 0) (drop (suc at) s) k t))

    pub no_kind_there : ((k : Kind) → ¬ (get_or s at 0 ≡ byte_of k)) → Faulty (UnknownCommand at) ≡ command_at p at (drop at s)
    no_kind_there n = at_front _ (sym (unknown_command p at (get_or s at 0) (drop (suc at) s) (no_kind (get_or s at 0) n)))
