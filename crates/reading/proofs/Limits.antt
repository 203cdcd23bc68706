-- What holds of the record of every reading, accepted or not.
use Rattle.reading.proofs.Prelude.{◌≡◌, refl, sym, subst, true, true≢false, List, [], ◌∷◌, ℕ, suc, ◌≤◌, ◌<◌, arith, get_or, Fitting, empty_plan}
use Rattle.reading.proofs.Prelude.{with_count, with_given, with_table, with_rule, with_use, with_unit, with_edge, with_show, BYTE_VALUES, Kind, single, sizes}
use Rattle.reading.proofs.Prelude.{given, show, table, rule, usage, unit, edge, end, carrying, count, reading, IsByte, All, Plan}
use Rattle.reading.proofs.Commands.{room_left, Unstopped, adds, grown, Leads}
use Rattle.reading.proofs.Walk.{walk_keeps}

pub empty_fits : Fitting empty_plan
unfolding empty_plan
empty_fits = record { tables_fit = omega arith; rules_fit = omega arith; units_fit = omega arith }

fits_still : {p q : Plan} → q.table_count ≡ p.table_count → q.rule_count ≡ p.rule_count → q.unit_count ≡ p.unit_count
    → Fitting p → Fitting q
fits_still t r u f =
    record { tables_fit = omega (arith, f.tables_fit); rules_fit = omega (arith, f.rules_fit); units_fit = omega (arith, f.units_fit) }

-- one command more is counted, is at most one EDGE more, and the record still fits
pub record Grown (p q : Plan) (k : Kind) : Type 0 where
  pub fitting : Fitting p → Fitting q
  pub some : 0 < count q k
  pub few_edges : q.edge_count ≤ suc p.edge_count

grown_so : (p : Plan) (at : ℕ) (s : List ℕ) (k : Kind) → adds k ≡ true → (u : Unstopped k p at s) → Grown p (grown p k u.operands) k
unfolding with_count with_given with_table with_rule with_use with_unit with_edge with_show carrying
grown_so p at s (single sizes) a u = record { fitting = fits_still refl refl refl; some = omega arith; few_edges = omega arith }
grown_so p at s (single given) a u = record { fitting = fits_still refl refl refl; some = omega arith; few_edges = omega arith }
grown_so p at s table a u =
    let room = room_left table u.in_place in
    record {
      fitting = λ f. record { tables_fit = omega arith; rules_fit = f.rules_fit; units_fit = f.units_fit };
      some = omega arith;
      few_edges = omega arith;
    }
grown_so p at s rule a u =
    let room = room_left rule u.in_place in
    record {
      fitting = λ f. record { tables_fit = f.tables_fit; rules_fit = omega arith; units_fit = f.units_fit };
      some = omega arith;
      few_edges = omega arith;
    }
grown_so p at s usage a u = record { fitting = fits_still refl refl refl; some = omega arith; few_edges = omega arith }
grown_so p at s unit a u =
    let room = room_left unit u.in_place in
    record {
      fitting = λ f. record { tables_fit = f.tables_fit; rules_fit = f.rules_fit; units_fit = omega arith };
      some = omega arith;
      few_edges = omega arith;
    }
grown_so p at s edge a u = record { fitting = fits_still refl refl refl; some = omega arith; few_edges = omega arith }
grown_so p at s (single show) a u = record { fitting = fits_still refl refl refl; some = omega arith; few_edges = omega arith }
grown_so p at s end a u = absurd (true≢false (sym a))

pub leads_grown : (p q : Plan) (at : ℕ) (s : List ℕ) (k : Kind) → Leads k p at s q → Grown p q k
leads_grown p q at s k l = subst (λ (z : Plan). Grown p z k) l.is (grown_so p at s k l.more l.read)

-- no record has more tables, rules or units than there may be
pub record_fits : (bytes : List ℕ) → Fitting (reading bytes).plan
unfolding reading
record_fits bytes =
    walk_keeps (λ p at s. Fitting p) (λ r. Fitting r.plan) (λ p q at s k f l. (leads_grown p q at s k l).fitting f)
    (λ p at s f e n. f) (λ p at s g f e. empty_fits) empty_plan 0 bytes empty_fits

-- the elements of a slice of bytes are bytes
pub all_bytes : (s : List ℕ) → ((i : ℕ) → get_or s i 0 < BYTE_VALUES) → All IsByte s
all_bytes [] h = tt
all_bytes (b ∷ s) h = (h 0, all_bytes s (λ i. h (suc i)))
