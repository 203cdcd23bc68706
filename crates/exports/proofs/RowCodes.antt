-- The code of what `relay_rows` answers.
use Rattle.exports.proofs.Prelude.{◌≡◌, ap, ◌∙◌, List, ℕ}
use Rattle.relay_rows.specs.RowAnswers.{rows_code, Rearranges}
use Rattle.std.specs.Prelude.{Result}
use Rattle.relay_rows.specs.declared.area.NoSheet.{NoSheet}
use Rattle.exports.specs.ExportedRows.{AreaHanded}

pub area_handed : {read before after : List ℕ} {count c : ℕ} {Right : Type 0} {r : Result (Unit {0}) NoSheet} → Rearranges read before after count Right r
    → c ≡ rows_code r → AreaHanded read before after count Right c
area_handed a e =
    record {
      refused = λ h. let x = a.refused h in (e ∙ ap rows_code x.0, x.1);
      written = λ s. let x = a.written s in (e ∙ ap rows_code x.0, x.1);
    }
