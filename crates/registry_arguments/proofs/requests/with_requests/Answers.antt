use Rattle.std.proofs.Common.{◌≡◌, ◌∙◌, refl}
use Rattle.std.proofs.lemmas.Result.{IfOk-weaker}
use Rattle.clap.specs.Words.{App, app_of, with_subcommand}
use Rattle.registry_arguments.specs.Commands.{trial_app, found_app, apply_app, import_app, replay_app, share_app}
use Rattle.registry_arguments.proofs.CommandLemmas.{with_same}
use Rattle.registry_arguments.proofs.requests.with_requests.Goals as goal

pub returns : goal.returns
returns c =
    let start : App = app_of c.args.program in
    let first : App = with_subcommand start trial_app.top in
    let second : App = with_subcommand first found_app.top in
    let third : App = with_subcommand second apply_app.top in
    let one : app_of c.in_ok-program.program ≡ first = c.in_ok-program.ensures.app ∙ with_same start start (app_of c.in_ok-trial.field-0) trial_app refl c.in_ok-trial.ensures.app in
    let two : app_of c.in_ok-program-2.program ≡ second = c.in_ok-program-2.ensures.app ∙ with_same (app_of c.in_ok-program.program) first (app_of c.in_ok-found.field-0) found_app one c.in_ok-found.ensures.app in
    let three : app_of c.in_ok-program-3.program ≡ third = c.in_ok-program-3.ensures.app ∙ with_same (app_of c.in_ok-program-2.program) second (app_of c.in_ok-apply.field-0) apply_app two c.in_ok-apply.ensures.app in
    let fourth : App = with_subcommand third import_app.top in
    let four : app_of c.in_ok-program-4.program ≡ fourth = c.in_ok-program-4.ensures.app ∙ with_same (app_of c.in_ok-program-3.program) third (app_of c.in_ok-import.field-0) import_app three c.in_ok-import.ensures.app in
    let fifth : App = with_subcommand fourth replay_app.top in
    let five : app_of c.in_ok-program-5.program ≡ fifth = c.in_ok-program-5.ensures.app ∙ with_same (app_of c.in_ok-program-4.program) fourth (app_of c.in_ok-replay.field-0) replay_app four c.in_ok-replay.ensures.app in
    let last = with_same (app_of c.in_ok-program-5.program) fifth (app_of c.in_ok-share.field-0) share_app five c.in_ok-share.ensures.app in
    IfOk-weaker c.with_command-6.result _ _ (λ r h. h ∙ last) c.with_command-6.ensures.app
