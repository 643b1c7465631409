use Rattle.std.proofs.Common.{◌∙◌, subst}
use Rattle.cf_base.proofs.Common.{Appends, Appends-trans}
use Rattle.cf_http.specs.Links.{SentFront}
use Rattle.cf_http.proofs.SentLaws.{front_of_first, front_of_second}
use Rattle.cf_http.proofs.sending.send_answer.Goals as goal

pub returns-in-Err-clause-sends : goal.returns-in-Err-clause-sends
returns-in-Err-clause-sends g c =
    let old = (g.L.Link.tells c.args.link.now).output.sent in
    let mid = (g.L.Link.tells c.send_all.new.link).output.sent in
    record { ok = tt; err = front_of_first old mid _ _ (subst (SentFront old mid) (c.as_slice.ensures.value ∙ c.write_lines.ensures.text) c.in-Err.ensures.sends.err) }

pub returns-in-Ok-send_all-clause-sends : goal.returns-in-Ok-send_all-clause-sends
returns-in-Ok-send_all-clause-sends g c =
    let old = (g.L.Link.tells c.args.link.now).output.sent in
    let mid = (g.L.Link.tells c.send_all.new.link).output.sent in
    let new = (g.L.Link.tells c.send_all-2.new.link).output.sent in
    let lines = subst (Appends old mid) (c.as_slice.ensures.value ∙ c.write_lines.ensures.text) c.in-Ok.ensures.sends.ok in
    record { ok = Appends-trans old mid new _ _ lines (subst (Appends mid new) c.shown.ensures c.in-Ok-send_all.ensures.sends.ok); err = tt }

pub returns-in-Err-send_all-clause-sends : goal.returns-in-Err-send_all-clause-sends
returns-in-Err-send_all-clause-sends g c =
    let old = (g.L.Link.tells c.args.link.now).output.sent in
    let mid = (g.L.Link.tells c.send_all.new.link).output.sent in
    let new = (g.L.Link.tells c.send_all-2.new.link).output.sent in
    let lines = subst (Appends old mid) (c.as_slice.ensures.value ∙ c.write_lines.ensures.text) c.in-Ok.ensures.sends.ok in
    record { ok = tt; err = front_of_second old mid new _ _ lines (subst (SentFront mid new) c.shown.ensures c.in-Err-send_all.ensures.sends.err) }
