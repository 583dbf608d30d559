use Rattle.std.proofs.Common.{◌∙◌}
use Rattle.screen.specs.Screen.{shown_view}
use Rattle.screen.proofs.Heads.{revealed_is, shows_head}
use Rattle.screen.proofs.head.reveal.Goals as goal

pub returns-clause-value : goal.returns-clause-value
returns-clause-value c = c.moved.ensures.value ∙ revealed_is (shown_view c.args.view.now) c.in_ok-place.place c.in_ok-place.ensures.value

pub returns-clause-shows : goal.returns-clause-shows
returns-clause-shows c = shows_head (shown_view c.args.view.now) c.moved.result c.in_ok-place.place c.in_ok-place.ensures.value c.moved.ensures.shows
