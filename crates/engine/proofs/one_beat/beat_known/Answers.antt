-- Each refusal by the test that led to it; else what the turns came to.
use Rattle.std.proofs.Common.{sym, ap, ◌∙◌, length}
use Rattle.std.specs.Prelude.{Option, is_some, unwrap_or}
use Rattle.couplers.specs.Channel.{values_given}
use Rattle.couplers.specs.declared.channel.Samples.{Samples}
use Rattle.couplers.specs.ChannelLaws.{samples-length}
use Rattle.engine.specs.declared.set.Lines.{Lines}
use Rattle.engine.specs.InputLaws.{inputs-length}
use Rattle.engine.specs.Set.{no_lines}
use Rattle.engine.proofs.BeatLaws.{none-few, too-many, few-all, lines-unsound, state-unsound, too_short, no-inputs, faulty-channel, turns-told, refuses}
use Rattle.engine.proofs.one_beat.beat_known.Goals as goal
use Rattle.engine.proofs.one_beat.beat_known.Goals.{then-lines-gt-LINES-via-then-lines-gt-LINES, then-lines-gt-LINES-via-else-lines-gt-LINES+then-not-known}

pub returns-in_default : goal.returns-in_default
returns-in_default c = refuses _ _ _ c.refused.ensures (lines-unsound _ _ _ _ _ (none-few c.in_default.is))

pub returns-then-lines-gt-LINES : goal.returns-then-lines-gt-LINES
returns-then-lines-gt-LINES c =
    elim c.then-lines-gt-LINES.branch [
      | then-lines-gt-LINES-via-then-lines-gt-LINES w ↦ refuses _ _ _ c.refused-then-lines-gt-LINES.ensures (lines-unsound _ _ _ _ _ (too-many c.in-Some.is w.if-lines-gt-LINES.true))
      | then-lines-gt-LINES-via-else-lines-gt-LINES+then-not-known w ↦ refuses _ _ _ c.refused-then-lines-gt-LINES.ensures (state-unsound _ _ _ _ _ (ap is_some (few-all c.in-Some.is w.if-lines-gt-LINES.false)) w.if-not-known.true)
    ]

pub returns-then-orders-lt-ORDERS : goal.returns-then-orders-lt-ORDERS
returns-then-orders-lt-ORDERS c = refuses _ _ _ c.refused-then-orders-lt-ORDERS.ensures (too_short _ _ _ _ _ (ap is_some (few-all c.in-Some.is c.if-lines-gt-LINES.false)) c.if-not-known.false c.if-orders-lt-ORDERS.true)

pub returns-then-not-are_inputs : goal.returns-then-not-are_inputs
returns-then-not-are_inputs c =
    refuses _ _ _ c.refused-then-not-are_inputs.ensures (no-inputs _ _ _ _ _ (ap is_some (few-all c.in-Some.is c.if-lines-gt-LINES.false)) c.if-not-known.false c.if-orders-lt-ORDERS.false (sym c.are_inputs.ensures ∙ c.if-not-are_inputs.true))

pub returns-in_default-sample_all : goal.returns-in_default-sample_all
returns-in_default-sample_all c =
    refuses _ _ _ c.refused-in_default-sample_all.ensures
    (faulty-channel _ _ _ _ _ (ap is_some (few-all c.in-Some.is c.if-lines-gt-LINES.false)) c.if-not-known.false c.if-orders-lt-ORDERS.false (sym c.are_inputs.ensures ∙ c.if-not-are_inputs.false) (sym (ap is_some c.in_default-sample_all.ensures)))

pub all_turns-requires : goal.all_turns-requires
all_turns-requires c =
    (c.if-lines-gt-LINES.false, (ap (λ (x : Option Samples). length (values_given x)) c.in-Some-sample_all.ensures ∙ samples-length _ _, (inputs-length _ (sym c.are_inputs.ensures ∙ c.if-not-are_inputs.false), c.if-orders-lt-ORDERS.false)))

pub returns : goal.returns
returns c =
    let e = few-all c.in-Some.is c.if-lines-gt-LINES.false in
    turns-told _ _ _ _ _ (ap is_some e) c.if-not-known.false c.if-orders-lt-ORDERS.false (sym c.are_inputs.ensures ∙ c.if-not-are_inputs.false) (sym (ap is_some c.in-Some-sample_all.ensures)) _ (sym c.in-Some-sample_all.ensures)
    (ap (λ (o : Option Lines). unwrap_or o no_lines) e) _ _ c.all_turns.ensures
