-- Each channel is sound.
use Rattle.std.proofs.Common.{sym, ◌∙◌, rules, tests}
use Rattle.std.proofs.lemmas.Iterator.{YieldsList-from_slice}
use Rattle.std.proofs.lemmas.Iterator.Search.{all_from_yields_List}
use Rattle.couplers.specs.Channel.{is_channel}
use Rattle.couplers.specs.ChannelLaws.{sound_all}
use Rattle.couplers.proofs.channel.are_channels.Goals as goal

pub returns : goal.returns
returns c =
    all_from_yields_List is_channel _ _ c.all.result c.all.ensures.ran (YieldsList-from_slice c.args.channels (cc)) (λ x b q k. search (rules, tests)) ∙
    sym (sound_all c.args.channels (search rules))
