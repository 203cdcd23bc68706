-- What the sheet of an answer says, by demands 1 and 3.
use Rattle.plan_sheet.proofs.Prelude.{◌≡◌, refl, sym, ap₂, ◌∙◌, List, ℕ, ◌≤◌, length, TABLE_WORDS, positions_sheet, refusal_sheet, answer, sheet_of}
use Rattle.plan_sheet.proofs.Prelude.{Positions, SheetSays}
use Rattle.reading.specs.Layout.{IsByte, All, Contents, record_of}
use Rattle.demands.specs.Demand1.{Listable, FirstFault}
use Rattle.demands.specs.Demands.{last_in}
use Rattle.demands.specs.Promised.{Promised}
use Rattle.demands.specs.declared.listing.Listing.{Listing}
use Rattle.demands.proofs.Demand1.{listable_lists}
use Rattle.demands.proofs.Promised.{promised}
use Rattle.plan_sheet.proofs.PlanSheets.{sheet_refused, sheet_listed}

module _ (bytes table : List ℕ) (all : All IsByte bytes) where
  -- the answer as a listing
  abbrev listing : Listing
  listing = record { outcome = (answer bytes table).outcome; counts = (answer bytes table).counts }

  kept : Promised bytes table listing (answer bytes table).table
  kept = promised all (record { outcome_is = refl; counts_are = refl; table_is = refl })

  positions_said : (c : Contents) → Listable bytes c → TABLE_WORDS ≤ length table
      → (ws : List ℕ) × (sheet_of (answer bytes table) ≡ positions_sheet ws) × Positions (record_of c) ws
  positions_said c k long =
      let accepted = kept.demand_1.accepts.1 (long, (c, k)) in
      let all-sets = listable_lists kept.demand_3 k long in (
        last_in listing (answer bytes table).table,
        sym (sheet_listed (answer bytes table) accepted),
        record {
          rising = all-sets.rising;
          members = all-sets.members;
        },
      )

  refusal_said : (n s : ℕ) → FirstFault bytes table n s → sheet_of (answer bytes table) ≡ refusal_sheet n s
  refusal_said n s f =
      let x = (kept.demand_1.refuses n s).1 f in
      sym (sheet_refused (answer bytes table) x.fault x.is) ∙ ap₂ refusal_sheet x.number_is x.spot_is

  pub sheet_says : SheetSays bytes table (sheet_of (answer bytes table))
  sheet_says = record { positions = positions_said; refusal = refusal_said; meaning = kept.meaning }
