use Rattle.std.proofs.Common.{◌≡◌, ◌∙◌, ◌<◌, ◌≤◌, ◌++◌, ap, append_assoc, arith, length, string_bytes, subst, sym}
use Rattle.std.specs.Prelude.{ℕ, List, Some, map, slice_get}
use Rattle.std.specs.List.{zip}
use Rattle.std.proofs.lemmas.List.{length-map, take_all}
use Rattle.std.proofs.lemmas.Slice.Zip.{length-zip}
use Rattle.ira_view_json.specs.Line.{IsLineOf}
use Rattle.ira_view_json.specs.LogValue.{log_value}
use Rattle.ira_view.specs.Html.{AreLogLines}
use Rattle.ira_view.proofs.LogLines.{log_lines_next, name_at}
use Rattle.ira_view.proofs.html.add_logs.Goals as goal

pub loop-place-preserved : goal.loop-place-preserved
loop-place-preserved g c =
    let files = c.args.files.now in
    let i = c.loop-place.place in
    let before = c.loop-place.invariant in
    let line = string_bytes c.in_ok-log_line.field-0 in
    let within : i < length files = omega arith in
    let named = g.N.HasName.name in
    let log = c.log.result.now in
    let is = subst (λ (n : List ℕ). IsLineOf (log_value n log.place log.initiator) line) c.name.ensures
    c.in_ok-log_line.ensures in
    let file = c.index-files-from.result in
    let name = subst (λ (x : g.row.N.Denot). slice_get (map named files) i ≡ Some (named x)) (sym c.index-files-from.is)
    (name_at named files i c.from.result file c.from.ensures within) in (
      before.0 ++ line,
      log_lines_next (map named files) c.args.logs.now i _ c.log.result.now before.0 line name c.log.ensures.value
          before.1 is,
      c.in_ok-push_str.ensures.bytes ∙ ap (λ bytes. bytes ++ c.as_str.result.now) before.2
          ∙ append_assoc (string_bytes c.args.told.now) before.0 c.as_str.result.now
          ∙ ap (λ more. string_bytes c.args.told.now ++ (before.0 ++ more)) c.as_str.ensures.value,
    )

pub returns : goal.returns
returns g c =
    let names = map g.N.HasName.name c.args.files.now in
    let named = zip names c.args.logs.now in
    let told = c.loop-place.invariant in
    let past : length named ≤ c.loop-place.place =
    omega (
      arith,
      length-zip names c.args.logs.now,
      length-map c.args.files.now g.N.HasName.name,
    ) in
    (told.0, subst (λ fs. AreLogLines fs told.0) (take_all c.loop-place.place named past) told.1, told.2)
