use Rattle.std.proofs.Common.{◌≡◌, ap, rules}
use Rattle.ira_view_page.proofs.Adding.{◌&◌, added_as}
use Rattle.ira_view_page.specs.Printable.{shown}
use Rattle.ira_view_page.proofs.text_stop.print_short_head.Goals as goal

pub returns : goal.returns
returns g c =
    let name : c.as_bytes.result.now ≡ c.args.file.now.name.now = search rules in
    c.begin.ensures & added_as (ap shown name) c.show.ensures & c.words.ensures & c.number_of.ensures
    & c.words-2.ensures & c.words-3.ensures & c.words-4.ensures & c.end.ensures
