-- "Ten headed relays always fit" (document 02, S-14). A plan that reads, passes the graph and has ten atoms or fewer in heads is one of those that demand 1
-- says are listed. What is promised of a listing, a sheet and a host's number then says that refusal 15 does not come; nothing else is asked.
use Rattle.antichains.proofs.Prelude.{◌≡◌, sym, ap, ◌∙◌, subst, List, ℕ, ◌/◌, ◌≤◌, ◌<◌, arith, dec_lt, length, take, get_or, replicate, Has, reading}
use Rattle.antichains.proofs.Prelude.{Contents, WithinLimits, record_of, predecessors_of, IsByte, All, Units, Passes, units_of, Listed, Clean, Shown}
use Rattle.antichains.proofs.Prelude.{FitsList, middle_binomial, FewHeads, TenHeaded, ListingFits, SheetFits, CodeFits}
use Rattle.atoms.proofs.Lists.{get_or_tabulate}
use Rattle.plan.specs.Limits.{MAX_RULES, MAX_UNITS, TABLE_WORDS, COUNTS, LAST_COUNT}
use Rattle.plan.specs.Faults.{RefusedBy, CODE_STEP}
use Rattle.plan.specs.declared.record.Plan.{Plan}
use Rattle.plan.specs.Faults.{Accepted, Outcome}
use Rattle.plan.proofs.Refusals.{told, refused_for}
use Rattle.reading.specs.Kinds.{rule, unit}
use Rattle.reading.proofs.Accepted.{accepted_is_plan}
use Rattle.reading.proofs.ElementLists.{all_member}
use Rattle.reading.proofs.Predecessors.{pair, has_member}
use Rattle.demands.specs.UnitLists.{unit_list_of, last_list_of}
use Rattle.demands.specs.Demand1.{units_in, Listable, TableFixed, table_place}
use Rattle.demands.specs.Promised.{Promised}
use Rattle.demands.specs.declared.listing.Listing.{Listing}
use Rattle.demands.proofs.Answers.{not_accepted}
use Rattle.demands.proofs.Enumerations.{fits_iff, unit_list_of_lem, last_list_of_lem}
use Rattle.demands.proofs.Demand1.{listable_lists}
use Rattle.sheet.specs.Sheet.{positions_sheet, refusal_sheet, positions_word, refused_word, at_word, decimal, places, places_within}
use Rattle.plan_sheet.specs.PlanSheets.{plan_sheet, SheetSays, KEPT_BYTES, SheetKept}
use Rattle.plan_sheet.specs.declared.Sheet.{Sheet}
use Rattle.exports.specs.HandedOut.{ListHanded, SheetHanded}
use Rattle.antichains.proofs.Sperner.{middle_of_ten}
use Rattle.antichains.proofs.ListLengths.{list_most, last_most}

-- ---- such a plan is listed

-- lists within the limits name no predecessor that is not there
within_clean : (c : Contents) → WithinLimits c → Clean (units_in c)
unfolding units_of record_of
within_clean c w = record { there = there }
  where
    there : (u v : ℕ) → u < length c.units → Has (get_or (record_of c).predecessors u 0) v → v < length c.units
    there u v l h =
        let row = get_or_tabulate MAX_UNITS (predecessors_of c.edges) u (omega (arith, w.under unit)) in
        (all_member _ c.edges (pair u v) w.good_edges (has_member c.edges (pair u v) (subst (λ (w : ℕ). Has w v) row h))
        ).to_there

module _ {bytes : List ℕ} {c : Contents} (t : TenHeaded bytes c) where
  abbrev S : Units
  S = units_in c

  clean : Clean S
  clean = within_clean c t.lays.within

  small : S.rules ≤ MAX_RULES
  unfolding units_of record_of
  small = t.lays.within.under rule

  unit_fits : (u : ℕ) → u < S.units → FitsList (Listed S u)
  unit_fits u l =
      let is = unit_list_of_lem S t.passes t.passes.given_free small u l in
      (fits_iff is).1 (omega (arith, middle_of_ten, list_most S t.passes 10 t.few u (unit_list_of S u) l is))

  last_fits : FitsList (Shown S)
  last_fits =
      let is = last_list_of_lem S t.passes t.passes.given_free clean small in
      (fits_iff is).1 (omega (arith, middle_of_ten, last_most S t.passes clean 10 (last_list_of S) t.few is))

  pub listable : Listable bytes c
  listable = record { lays = t.lays; passes = t.passes; unit_fits = unit_fits; last_fits = last_fits }

  -- the lists in a table have at most 252 members each
  counts_most : {table table' : List ℕ} {r : Listing} → TableFixed S table r table' → (i : ℕ) → i < COUNTS → get_or r.counts i 0 ≤ middle_binomial 10
  counts_most {r = r} all i l = go (dec_lt i S.units) (dec_lt i LAST_COUNT)
    where
      go : Dec (i < S.units) → Dec (i < LAST_COUNT) → get_or r.counts i 0 ≤ middle_binomial 10
      go (yes k) m = omega (arith, all.counted i l, list_most S t.passes 10 t.few i (all.lists i) k (all.unit_list i k))
      go (no k) (yes m) = omega (arith, all.counted i l, ap length (all.no_unit i (omega arith) m))
      go (no k) (no m) =
          let e : i ≡ LAST_COUNT = omega arith in
          let most = last_most S t.passes clean 10 (all.lists LAST_COUNT) t.few all.last_list in
          omega (arith, all.counted i l, ap (λ (j : ℕ). length (all.lists j)) e, most)

-- bytes that are read, in place of lists and their layout
pub ten_headed : (bytes : List ℕ) → All IsByte bytes → (reading bytes).outcome ≡ Accepted → Passes (units_of (reading bytes).plan)
    → FewHeads 10 (units_of (reading bytes).plan) → (c : Contents) × TenHeaded bytes c
ten_headed bytes all read pass few =
    let p = accepted_is_plan bytes all read in (
      p.contents,
      record {
        lays = record { within = p.within; counted = p.counted; bytes_are = p.bytes_are };
        passes = subst (λ (q : Plan). Passes (units_of q)) p.record_is pass;
        few = subst (λ (q : Plan). FewHeads 10 (units_of q)) p.record_is few;
      },
    )

-- ---- a listing

-- a refusal has one number
one_number : {o : Outcome} {n m s t : ℕ} → RefusedBy o n s → RefusedBy o m t → n ≡ m
one_number a b = sym a.number_is ∙ (told (refused_for a.is b)).0

-- for every plan and table, and everything that may be handed back for them
pub listing_fits : {bytes table table' : List ℕ} {r : Listing} {c : Contents} → Promised bytes table r table' → TenHeaded bytes c
    → ListingFits c table r table'
listing_fits {bytes} {table} {table'} {r} {c} p t = record {
  not_long = λ u k. go u k (dec_lt (length table) TABLE_WORDS);
  accepted = accepted;
  at_most = λ long. counts_most t (p.demand_1.lists c (listable t) long);
  all_lists = p.demand_1.lists c (listable t);
  last_list = listable_lists p.demand_3 (listable t);
}
  where
    accepted : TABLE_WORDS ≤ length table → r.outcome ≡ Accepted
    accepted long = p.demand_1.accepts.1 (long, (c, listable t))

    go : (u : ℕ) → RefusedBy r.outcome 15 u → Dec (length table < TABLE_WORDS) → ⊥
    go u k (yes short) = omega (arith, one_number k ((p.demand_1.refuses 1 (length table)).1 (table_place short)))
    go u k (no long) = not_accepted k.fault (sym (accepted (omega arith)) ∙ k.is)

-- ---- a sheet

-- the first bytes of a sheet tell whether it has positions, and the next ones the number of a refusal
positions_no_refusal : (ws : List ℕ) (n s : ℕ) → ¬ (positions_sheet ws ≡ refusal_sheet n s)
unfolding positions_sheet refusal_sheet positions_word refused_word
positions_no_refusal ws n s e = let first : ◌≡◌ {A = ℕ} 112 114 = ap (λ (xs : List ℕ). get_or xs 0 0) e in omega arith

one_not_fifteen : (s u : ℕ) → ¬ (refusal_sheet 1 s ≡ refusal_sheet 15 u)
unfolding refusal_sheet refused_word at_word decimal places places_within
one_not_fifteen s u e = let tenth : ◌≡◌ {A = ℕ} 32 53 = ap (λ (xs : List ℕ). get_or xs 9 0) e in omega arith

pub sheet_fits : {bytes table sheet : List ℕ} {c : Contents} → SheetSays bytes table sheet → TenHeaded bytes c → SheetFits c table sheet
sheet_fits {bytes} {table} {sheet} {c} says t =
    record { not_long = λ u e. go u e (dec_lt (length table) TABLE_WORDS); positions = says.positions c (listable t) }
  where
    go : (u : ℕ) → sheet ≡ refusal_sheet 15 u → Dec (length table < TABLE_WORDS) → ⊥
    go u e (yes short) = one_not_fifteen (length table) u (sym (says.refusal 1 (length table) (table_place short)) ∙ e)
    go u e (no long) =
        let p = says.positions c (listable t) (omega arith) in
        positions_no_refusal p.0 15 u (sym p.1 ∙ e)

-- what `settle` writes, for an input of any length
pub settle_sheet_fits : {area : List ℕ} {read : ℕ} {r : Sheet} {bytes : List ℕ} {c : Contents} → SheetKept area read r → All IsByte bytes
    → take KEPT_BYTES bytes ≡ take read area → TenHeaded bytes c → SheetFits c (replicate {A = ℕ} TABLE_WORDS 0) (take r.length r.bytes)
settle_sheet_fits {bytes = bytes} kept all begins t = sheet_fits (kept.says bytes all begins) t

-- ---- what a host is handed

pub code_fits : {bytes table table' counts counts' : List ℕ} {r : ℕ} {c : Contents} → ListHanded bytes table table' counts counts' r
    → TenHeaded bytes c → CodeFits table r
code_fits {table = table} {r = r} handed t = record { not_long = λ e. go e (dec_lt (length table) TABLE_WORDS); listed = listed }
  where
    listed : TABLE_WORDS ≤ length table → r ≡ 0
    listed long = handed.listed ((listing_fits handed.promised t).accepted long)

    go : r / CODE_STEP ≡ 15 → Dec (length table < TABLE_WORDS) → ⊥
    go e (yes short) = omega (arith, handed.refused 1 (length table) (table_place short))
    go e (no long) = omega (arith, listed (omega arith))

-- the listing behind the number, and the sheet of a host, whose table is the function's own
pub host_listing_fits : {bytes table table' counts counts' : List ℕ} {r : ℕ} {c : Contents} (handed : ListHanded bytes table table' counts counts' r)
    → TenHeaded bytes c → ListingFits c table handed.listing table'
host_listing_fits handed t = listing_fits handed.promised t

pub host_sheet_fits : {bytes sheet sheet' : List ℕ} {r : ℕ} {c : Contents} → SheetHanded bytes sheet sheet' r → TenHeaded bytes c
    → SheetFits c (replicate {A = ℕ} TABLE_WORDS 0) (plan_sheet bytes)
host_sheet_fits handed t = sheet_fits handed.says t
