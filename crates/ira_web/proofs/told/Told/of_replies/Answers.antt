use Rattle.std.proofs.Common.{◌++◌, ◌∷◌, [], List, arith, length, refl, rules, subst, take}
use Rattle.std.proofs.lemmas.Option.{slice_get_read}
use Rattle.std.specs.List.{AllZip}
use Rattle.ira_audit.proofs.LogTexts.{next_taken}
use Rattle.ira_audit.proofs.Zipped.{zipped_more}
use Rattle.ira_commands.specs.Reply.{Reply}
use Rattle.ira_web.specs.Told.{AreParts}
use Rattle.ira_web.proofs.Written.{holds_more}
use Rattle.ira_web.proofs.told.Told.of_replies.Goals as goal

pub loop-reply-preserved : goal.loop-reply-preserved
loop-reply-preserved g c =
    let replies = c.args.replies.now in let i = c.loop-reply.reply-index in let before = c.loop-reply.invariant in
    let reply = c.reply-item.result in let parts = c.in_ok-add.ensures in
    let at = slice_get_read replies (length replies) i reply refl c.loop-reply-test.true (search rules) in
    let are = zipped_more AreParts (take i replies) before.parts reply parts.0 before.are parts.1 in
    record {
      within = omega arith;
      parts = before.parts ++ parts.0 ∷ [];
      are = subst (λ (rs : List Reply). AllZip AreParts rs (before.parts ++ parts.0 ∷ [])) (next_taken replies i reply at) are;
      held = holds_more before.parts parts.0 c.loop-reply.told c.add.new.self before.held parts.2;
    }
