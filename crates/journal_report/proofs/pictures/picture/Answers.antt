use Rattle.std.proofs.Common.{◌≡◌, ℕ, List, ◌++◌, ap, ◌∙◌}
use Rattle.relay_model.specs.Sessions.{numbers}
use Rattle.place_report.specs.Shown.{shown}
use Rattle.journal_report.specs.Pictures.{head_text}
use Rattle.journal_report.proofs.Pictured.{picture_made}
use Rattle.journal_report.proofs.pictures.picture.Goals as goal

pub returns : goal.returns
returns c =
    let head : c.say.new.self ≡ shown (head_text (numbers c.args.overview.now.config c.args.overview.now.acts)) =
    c.in_ok-say.ensures ∙ ap (λ (text : List ℕ). text ++ shown c.as_str.result.now) c.new-page.ensures ∙ ap shown (c.as_str.ensures.value ∙ c.in_ok-head.ensures ∙ ap head_text c.sessions.ensures) in
    picture_made c.args.overview.now.config c.args.overview.now.acts c.say.new.self c.end_line.new.self c.say_ground.new.page c.say_rows.new.page c.say_notes.new.page c.say-2.new.self c.end_line-2.new.self
    head c.in_ok-end_line.ensures c.in_ok-say_ground.ensures c.in_ok-say_rows.ensures c.in_ok-say_notes.ensures c.in_ok-say-2.ensures c.in_ok-end_line-2.ensures
