-- "a plan sent over a noisy link lost one whole EDGE and still read well": with a COUNT no such plan reads. If reading accepted what is left, its bytes
-- would be a layout with the same COUNT and one command fewer, and that COUNT would be wrong.
use Rattle.std.specs.Prelude.{Ok, Err}
use Rattle.declared_sizes.proofs.Prelude.{◌≡◌, refl, ap, sym, ◌∙◌, subst, List, [], ◌∷◌, ◌++◌, flat_map, List-as-Memᴰ, Memᴰ-tail}
use Rattle.declared_sizes.proofs.Prelude.{Memᴰ-append_cases, Memᴰ-append_left, Memᴰ-append_right, true, ◌⊎◌, inl, inr, ℕ, suc, ◌+◌, ◌≤◌, ◌<◌}
use Rattle.declared_sizes.proofs.Prelude.{arith, length, get_or, length-append, Accepted, Refused, Kind, single, sizes, table, rule, usage, unit, edge}
use Rattle.declared_sizes.proofs.Prelude.{end, miscounted, of_kind, command_at, Sizes, UnitPair, Contents, count_bytes, end_bytes, commands, layout}
use Rattle.declared_sizes.proofs.Prelude.{first_sizes, record_of, IsByte, All, AllDistinct, GoodEdge, at_most, kind_count, WithinLimits, SizesAgree}
use Rattle.declared_sizes.proofs.Prelude.{CountRight, step_of, reading, refused, ReadPlan, kind_of_byte, end_in_time, few_within, commands_read}
use Rattle.atoms.proofs.Tests.{decided_true}
use Rattle.plan.specs.Faults.{RefusedBy}
use Rattle.plan.specs.declared.fault.Fault.{Fault}
use Rattle.plan.specs.declared.fault.Fault.TheVariants.{WrongCount}
use Rattle.plan.specs.Faults.{Outcome}
use Rattle.reading.specs.declared.command.Command.TheVariants.{Fault as Faulty}
use Rattle.reading.proofs.Commands.{known_command}
use Rattle.reading.proofs.Sizes.{decides_miscounted}
use Rattle.reading.proofs.Walk.{walk_ended}
use Rattle.reading.proofs.Accepted.{accepted_is_plan}
use Rattle.declared_sizes.specs.Lost.{having, Lost, a_rule, a_unit, an_edge, Declares}
use Rattle.declared_sizes.proofs.Tally.{grouped, SameSizes, same_sizes}

-- ---- the COUNT of a layout

-- its three bytes stand behind the first one
record FirstBytes (bytes : List ℕ) (s : Sizes) : Type 0 where
  rules_byte : get_or bytes 1 0 ≡ s.rules
  units_byte : get_or bytes 2 0 ≡ s.units
  edges_byte : get_or bytes 3 0 ≡ s.edges

first_bytes : (c : Contents) → 0 < length (c.once sizes) → FirstBytes (layout c) (first_sizes (c.once sizes))
unfolding flat_map
first_bytes c some = subst (λ (s : List ℕ). FirstBytes s (first_sizes (c.once sizes))) (sym (grouped c)) (among (c.once sizes) _ some)
  where
    among : (declared : List Sizes) (rest : List ℕ) → 0 < length declared → FirstBytes (flat_map count_bytes declared ++ rest) (first_sizes declared)
    among [] rest l = absurd (omega arith)
    among (s ∷ declared) rest l = record { rules_byte = refl; units_byte = refl; edges_byte = refl }

-- the first COUNT agrees where all do
first_agrees : (c x : Contents) → 0 < length (x.once sizes) → All (SizesAgree c) (x.once sizes) → SizesAgree c (first_sizes (x.once sizes))
first_agrees c x some a = among (x.once sizes) some a
  where
    among : (declared : List Sizes) → 0 < length declared → All (SizesAgree c) declared → SizesAgree c (first_sizes declared)
    among [] l h = absurd (omega arith)
    among (s ∷ declared) l h = h.0

-- ---- one command fewer

one_fewer : {A : Type 0} (xs front back : List A) (x : A) → xs ≡ front ++ (x ∷ back) → length xs ≡ suc (length (front ++ back))
one_fewer xs front back x e = omega (arith, ap length e, length-append front (x ∷ back), length-append front back)

-- what is left has the same COUNT, and it is wrong
record Wrong (c d : Contents) : Type 0 where
  same_count : d.once sizes ≡ c.once sizes
  wrong : (s : Sizes) → SizesAgree c s → ¬ SizesAgree d s

left : (c d : Contents) → Lost c d → Wrong c d
left c d (a_rule front back r e z) = record { same_count = ap (λ (x : Contents). x.once sizes) z; wrong = λ s a b. fewer s a b }
  where
    fewer : (s : Sizes) → SizesAgree c s → ¬ SizesAgree d s
    fewer s a b = omega (arith, one_fewer c.rules front back r e, a.rules_are, b.rules_are, ap (λ (x : Contents). length x.rules) z)
left c d (a_unit front back word e z) = record { same_count = ap (λ (x : Contents). x.once sizes) z; wrong = λ s a b. fewer s a b }
  where
    fewer : (s : Sizes) → SizesAgree c s → ¬ SizesAgree d s
    fewer s a b = omega (arith, one_fewer c.units front back word e, a.units_are, b.units_are, ap (λ (x : Contents). length x.units) z)
left c d (an_edge front back p e z) = record { same_count = ap (λ (x : Contents). x.once sizes) z; wrong = λ s a b. fewer s a b }
  where
    fewer : (s : Sizes) → SizesAgree c s → ¬ SizesAgree d s
    fewer s a b = omega (arith, one_fewer c.edges front back p e, a.edges_are, b.edges_are, ap (λ (x : Contents). length x.edges) z)

module _ (c d : Contents) (whole : Declares c) (lost : Lost c d) where
  some_left : 0 < length (d.once sizes)
  some_left = omega (arith, whole.some, ap length (left c d lost).same_count)

  -- the COUNT of c agrees with c
  count_agrees : SizesAgree c (first_sizes (d.once sizes))
  count_agrees = subst (λ (l : List Sizes). SizesAgree c (first_sizes l)) (sym (left c d lost).same_count) (first_agrees c c whole.some whole.counted)

  -- ---- no such plan reads

  not_accepted : All IsByte (layout d) → ¬ ((reading (layout d)).outcome ≡ Accepted)
  not_accepted small o =
      let p = accepted_is_plan (layout d) small o in
      let x = p.contents in
      let same : SameSizes d x = same_sizes d x p.bytes_are in
      let some : 0 < length (x.once sizes) = omega (arith, some_left, same.counts) in
      let first : FirstBytes (layout d) (first_sizes (x.once sizes)) =
      subst (λ (s : List ℕ). FirstBytes s (first_sizes (x.once sizes))) (sym p.bytes_are) (first_bytes x some) in
      let own = first_bytes d some_left in
      let right : SizesAgree x (first_sizes (x.once sizes)) = first_agrees x x some p.counted in
      (left c d lost).wrong (first_sizes (d.once sizes)) count_agrees
      (record {
        rules_are = sym own.rules_byte ∙ first.rules_byte ∙ right.rules_are ∙ sym same.rules;
        units_are = sym own.units_byte ∙ first.units_byte ∙ right.units_are ∙ sym same.units;
        edges_are = sym own.edges_byte ∙ first.edges_byte ∙ right.edges_are ∙ sym same.edges;
      })

  -- taking away any one whole RULE, UNIT or EDGE of a plan with a COUNT is refused
  pub lost_noticed : All IsByte (layout d) → (f : Fault) × ((reading (layout d)).outcome ≡ Refused f)
  lost_noticed small = go (reading (layout d)).outcome refl
    where
      go : (o : Outcome) → (reading (layout d)).outcome ≡ o → (f : Fault) × ((reading (layout d)).outcome ≡ Refused f)
      go (Ok u) e = absurd (not_accepted small e)
      go (Err f) e = (f, e)

  -- ---- by 23 at 0, where no other command is at fault

  not_counted : ¬ CountRight d
  not_counted a = (left c d lost).wrong (first_sizes (d.once sizes)) count_agrees (first_agrees d d some_left a)

  module _ (within : WithinLimits d) where
    wrong_there : miscounted (record_of d) ≡ true
    wrong_there = decided_true (decides_miscounted d (few_within within)) not_counted

    end_refused : (at : ℕ) → command_at (record_of d) at end_bytes ≡ Faulty (WrongCount 0)
    unfolding of_kind
    end_refused at = known_command (record_of d) at 0 [] end (kind_of_byte end) ∙ simp (end_in_time, wrong_there)

    pub lost_is_23 : RefusedBy (reading (layout d)).outcome 23 0
    lost_is_23 =
        let at : ℕ = length (commands d) in
        let comes : reading (layout d) ≡ refused (WrongCount 0) =
        commands_read d within end_bytes
        ∙ walk_ended (record_of d) at end_bytes (refused (WrongCount 0)) (ap (step_of (record_of d)) (end_refused at)) in
        record { fault = WrongCount 0; is = ap (λ (r : ReadPlan). r.outcome) comes; number_is = refl; spot_is = refl }

-- ---- an EDGE that is lost leaves all others as they were

all_left : {A : Type 0} (P : A → Type 0) (front back : List A) (x : A) → All P (front ++ (x ∷ back)) → All P (front ++ back)
all_left P [] back x a = a.1
all_left P (y ∷ front) back x a = (a.0, all_left P front back x a.1)

member_left : {A : Type 0} (front back : List A) (x y : A) → List-as-Memᴰ y (front ++ back) → List-as-Memᴰ y (front ++ (x ∷ back))
member_left front back x y m = go (Memᴰ-append_cases front m)
  where
    go : List-as-Memᴰ y front ⊎ List-as-Memᴰ y back → List-as-Memᴰ y (front ++ (x ∷ back))
    go (inl h) = Memᴰ-append_left (x ∷ back) h
    go (inr h) = Memᴰ-append_right front (Memᴰ-tail h)

distinct_left : {A : Type 0} (front back : List A) (x : A) → AllDistinct (front ++ (x ∷ back)) → AllDistinct (front ++ back)
distinct_left [] back x d = d.1
distinct_left (y ∷ front) back x d = (λ m. d.0 (member_left front back x y m), distinct_left front back x d.1)

module _ (c : Contents) (whole : Declares c) (front back : List UnitPair) (e : UnitPair) (is : c.edges ≡ front ++ (e ∷ back)) where
  abbrev without : Contents
  without = having c c.rules c.units (front ++ back)

  fewer_edges : WithinLimits c → (k : Kind) → kind_count without k ≤ at_most k
  fewer_edges w (single s) = w.under (single s)
  fewer_edges w table = w.under table
  fewer_edges w rule = w.under rule
  fewer_edges w usage = w.under usage
  fewer_edges w unit = w.under unit
  fewer_edges w edge = omega (arith, w.under edge, one_fewer c.edges front back e is)
  fewer_edges w end = omega arith

  still_within : WithinLimits without
  still_within =
      let w = whole.within in
      record {
        under = fewer_edges w;
        good_once = w.good_once;
        good_tables = w.good_tables;
        good_rules = w.good_rules;
        good_uses = w.good_uses;
        no_use_again = w.no_use_again;
        good_units = w.good_units;
        good_edges = all_left (GoodEdge (length c.units)) front back e (subst (All (GoodEdge (length c.units))) is w.good_edges);
        no_repeat = distinct_left front back e (subst (λ (edges : List UnitPair). AllDistinct edges) is w.no_repeat);
      }

  -- "lost one whole EDGE": refused 23 at 0
  pub lost_edge_is_23 : RefusedBy (reading (layout without)).outcome 23 0
  lost_edge_is_23 = lost_is_23 c without whole (an_edge front back e is refl) still_within
