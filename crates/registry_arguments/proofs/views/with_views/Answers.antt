use Rattle.std.proofs.Common.{◌≡◌, ◌∙◌, refl}
use Rattle.std.proofs.lemmas.Result.{IfOk-weaker}
use Rattle.clap.specs.Words.{App, app_of, with_subcommand}
use Rattle.registry_arguments.specs.Commands.{serve_app, export_app, report_app, history_app, head_app, check_app, lookup_app}
use Rattle.registry_arguments.proofs.CommandLemmas.{with_same}
use Rattle.registry_arguments.proofs.views.with_views.Goals as goal

pub returns : goal.returns
returns c =
    let start : App = app_of c.args.program in
    let first : App = with_subcommand start serve_app.top in
    let second : App = with_subcommand first export_app.top in
    let third : App = with_subcommand second report_app.top in
    let one : app_of c.in_ok-program.program ≡ first = c.in_ok-program.ensures.app ∙ with_same start start (app_of c.in_ok-serve.field-0) serve_app refl c.in_ok-serve.ensures.app in
    let two : app_of c.in_ok-program-2.program ≡ second = c.in_ok-program-2.ensures.app ∙ with_same (app_of c.in_ok-program.program) first (app_of c.in_ok-export.field-0) export_app one c.in_ok-export.ensures.app in
    let three : app_of c.in_ok-program-3.program ≡ third = c.in_ok-program-3.ensures.app ∙ with_same (app_of c.in_ok-program-2.program) second (app_of c.in_ok-report.field-0) report_app two c.in_ok-report.ensures.app in
    let fourth : App = with_subcommand third history_app.top in
    let four : app_of c.in_ok-program-4.program ≡ fourth = c.in_ok-program-4.ensures.app ∙ with_same (app_of c.in_ok-program-3.program) third (app_of c.in_ok-history.field-0) history_app three c.in_ok-history.ensures.app in
    let fifth : App = with_subcommand fourth head_app.top in
    let five : app_of c.in_ok-program-5.program ≡ fifth = c.in_ok-program-5.ensures.app ∙ with_same (app_of c.in_ok-program-4.program) fourth (app_of c.in_ok-head.field-0) head_app four c.in_ok-head.ensures.app in
    let sixth : App = with_subcommand fifth check_app.top in
    let six : app_of c.in_ok-program-6.program ≡ sixth = c.in_ok-program-6.ensures.app ∙ with_same (app_of c.in_ok-program-5.program) fifth (app_of c.in_ok-check.field-0) check_app five c.in_ok-check.ensures.app in
    let last = with_same (app_of c.in_ok-program-6.program) sixth (app_of c.in_ok-lookup.field-0) lookup_app six c.in_ok-lookup.ensures.app in
    IfOk-weaker c.with_command-7.result _ _ (λ r h. h ∙ last) c.with_command-7.ensures.app
