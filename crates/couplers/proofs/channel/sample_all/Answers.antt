-- One that refuses is enough; else each turn puts what its channel gave.
use mathlib.Core.Path.{◌≡◌, refl, sym, ap, ◌∙◌}
use native.Mathlib.Omega.{arith}
use mir.Syntax.{w32}
use mir.Val.{SFits}
use mir.ValLaws.{to_z-of_z}
use borrow.Author.Rules.{rules}
use Rattle.std.specs.Prelude.{Some, None, is_some, get_or}
use Rattle.couplers.specs.Channel.{channel_count, all_good, values_sampled, channels_sampled, sampled_all, sampled_at, no_channel, value_sampled, channel_sampled}
use Rattle.couplers.specs.ChannelLaws.{good-step, good-stops, kept_step, values-step}
use Rattle.couplers.proofs.channel.sample_all.Goals as goal

pub loop-i-init : goal.loop-i-init
unfolding all_good channels_sampled values_sampled
loop-i-init c = record { good = refl; kept = refl; values = refl }

pub returns-in_err-s : goal.returns-in_err-s
unfolding sampled_all all_good
returns-in_err-s c =
    let a = c.args in
    let v = c.loop-i.invariant in
    let z : sampled_at a.channels a.readings c.loop-i.i ≡ None = sym c.sample.ensures ∙ c.in_err-s.was in
    rw (c.from_residual.ensures, good-stops a.channels a.readings c.loop-i.i channel_count (omega arith) v.good (ap is_some z))

pub loop-i-preserved : goal.loop-i-preserved
loop-i-preserved c =
    let a = c.args in
    let v = c.loop-i.invariant in
    let z : sampled_at a.channels a.readings c.loop-i.i ≡ Some c.in_ok-s.s = sym c.sample.ensures ∙ c.in_ok-s.was in
    let f : SFits w32 c.in_ok-s.s.value = search rules in
    record {
      good = good-step a.channels a.readings c.loop-i.i v.good (ap is_some z);
      kept = kept_step a.channels a.readings c.loop-i.kept c.loop-i.i _ (sym (ap (channel_sampled (get_or a.channels c.loop-i.i no_channel)) z)) v.kept;
      values = values-step a.channels a.readings c.loop-i.values c.loop-i.i _ (to_z-of_z w32 _ f ∙ sym (ap value_sampled z)) v.values;
    }

pub returns : goal.returns
unfolding sampled_all all_good values_sampled channels_sampled
returns c =
    let v = c.loop-i.invariant in
    let e : c.loop-i.i ≡ channel_count = omega arith in
    rw (rw e at v.good, rw e at v.kept, rw e at v.values)
