use Rattle.std.proofs.Common.{◌≡◌, ℕ, List, ◌++◌, ap, ◌∙◌}
use Rattle.relay_model.specs.History.{now}
use Rattle.history_facts.specs.Pasts.{Chronicle}
use Rattle.journal_report.specs.Timelines.{scale_line}
use Rattle.journal_report.proofs.Drawn.{timeline_made}
use Rattle.journal_report.proofs.timelines.timeline.Goals as goal

pub returns : goal.returns
returns c =
    let span : c.now.result ≡ now c.args.overview.now.acts = c.now.ensures ∙ ap (λ (facts : Chronicle). now facts.acts) c.facts.ensures in
    let scale : c.say_scale.new.page ≡ scale_line (now c.args.overview.now.acts) =
    c.in_ok-say_scale.ensures ∙ ap (λ (text : List ℕ). text ++ scale_line c.now.result) c.new-page.ensures ∙ ap scale_line span in
    timeline_made c.args.overview.now.config c.args.overview.now.acts c.say_scale.new.page c.say_lines.new.page c.say.new.self c.end_line.new.self scale c.in_ok-say_lines.ensures c.in_ok-say.ensures c.in_ok-end_line.ensures
