use Rattle.std.proofs.Common.{◌∙◌, codes, refl, sym}
use Rattle.std.proofs.lemmas.Slice.Eq.{bytes_eq-Decides}
use Rattle.std.specs.Prelude.{◌≢◌}
use Rattle.std.proofs.lemmas.Result.{err_from_is_err_and}
use Rattle.ira_main_files.specs.Shelf.{writing_by}
use Rattle.ira_main.proofs.Delivering.{file_shown, none_kept, nothing_kept, text_kept, text_unkept}
use Rattle.ira_main.proofs.delivery.deliver_and_keep.Goals as goal

pub returns-in_err-answered : goal.returns-in_err-answered
returns-in_err-answered g c =
    let p = err_from_is_err_and c.from_residual.result c.from_residual.ensures.1 in
    rw (c.in_err-answered.was, p.1, p.2) (refl, refl, refl)

pub returns-in_err-reply : goal.returns-in_err-reply
returns-in_err-reply g c =
    let p = err_from_is_err_and c.from_residual-in_err-reply.result c.from_residual-in_err-reply.ensures.1 in
    rw (c.in_ok-answered.was, c.in_err-reply.was, p.1, p.2) (refl, refl, refl)

pub returns-in_err-status : goal.returns-in_err-status
returns-in_err-status g c =
    let p = err_from_is_err_and c.from_residual-in_err-status.result c.from_residual-in_err-status.ensures.1 in
    let writes = writing_by g.F.Shelf.creates g.F.Shelf.closes g.F.Shelf.keeps g.F.Out.Sink.state in
    rw (c.in_ok-answered.was, c.in_ok-reply.was, p.1, p.2) (none_kept writes c.in_ok-reply.reply _ _ c.args.name _ _ c.in_err-status.ensures)

pub returns-in_default : goal.returns-in_default
returns-in_default g c =
    let writes = writing_by g.F.Shelf.creates g.F.Shelf.closes g.F.Shelf.keeps g.F.Out.Sink.state in
    rw (c.in_ok-answered.was, c.in_ok-reply.was) (nothing_kept writes c.in_ok-reply.reply _ _ c.args.name _ _ c.in_default.is c.print.ensures)

pub returns-then-eq : goal.returns-then-eq
returns-then-eq g c =
    let writes = writing_by g.F.Shelf.creates g.F.Shelf.closes g.F.Shelf.keeps g.F.Out.Sink.state in
    let dash = (bytes_eq-Decides c.in-Some.name.now (codes "-")).0 (sym c.eq.ensures ∙ c.if-eq.true) in
    rw (c.in_ok-answered.was, c.in_ok-reply.was) (file_shown writes c.in_ok-reply.reply _ _ c.args.name c.in-Some.name _ _ c.in-Some.is dash
    c.print_file.ensures)

pub returns-in_err-keep_text : goal.returns-in_err-keep_text
returns-in_err-keep_text g c =
    let p = err_from_is_err_and c.from_residual-in_err-keep_text.result c.from_residual-in_err-keep_text.ensures.1 in
    let writes = writing_by g.F.Shelf.creates g.F.Shelf.closes g.F.Shelf.keeps g.F.Out.Sink.state in
    let other : c.in-Some.name.now ≢ codes "-" =
    λ e. (let bad = sym c.if-eq.false ∙ c.eq.ensures ∙ (bytes_eq-Decides c.in-Some.name.now (codes "-")).1 e in cc) in
    rw (c.in_ok-answered.was, c.in_ok-reply.was, p.1, p.2) (text_unkept writes c.in_ok-reply.reply _ _ c.args.name c.in-Some.name _ _ _ _ _
    c.in-Some.is other refl c.in_ok-status.ensures (rw c.files.ensures at c.in_err-keep_text.ensures))

pub returns : goal.returns
returns g c =
    let writes = writing_by g.F.Shelf.creates g.F.Shelf.closes g.F.Shelf.keeps g.F.Out.Sink.state in
    let other : c.in-Some.name.now ≢ codes "-" =
    λ e. (let bad = sym c.if-eq.false ∙ c.eq.ensures ∙ (bytes_eq-Decides c.in-Some.name.now (codes "-")).1 e in cc) in
    rw (c.in_ok-answered.was, c.in_ok-reply.was) (text_kept writes c.in_ok-reply.reply _ _ c.args.name c.in-Some.name _ _ _ _
    c.in-Some.is other refl c.in_ok-status.ensures (rw c.files.ensures at c.in_ok-keep_text.ensures))
