-- What a channel gives and keeps (document 02, Req 05). Definitions only; ChannelLaws has what follows from them.
use Rattle.std.specs.Prelude.{Bool, true, false, cond, ◌&&◌, List, ℕ, zero, suc, ◌+◌, leb, eqb, ℤ, pos, replicate, get_or, set, Float, Option, Some, None, is_some}
use Rattle.std.specs.Float.{nan, fin}
use Rattle.couplers.specs.declared.reading.Reading.{Reading}
use Rattle.couplers.specs.declared.reading.Reading.TheVariants.{Volts, Break, Short}
use Rattle.couplers.specs.declared.channel.Channel.{Channel}
use Rattle.couplers.specs.declared.channel.Sampled.{Sampled}
use Rattle.couplers.specs.declared.channel.Samples.{Samples}
use Rattle.couplers.specs.Conversion.{thousandths_of, value_of}

abbrev pub channel_count : ℕ
channel_count = 8

-- the faulty beats in a row for which the last good value serves
abbrev pub max_faults : ℕ
max_faults = 25

-- a fault uses the last good value for up to 25 beats; none where there was none, or 25 beats are over
unfoldable pub sampled_fault : Channel → Option Sampled
sampled_fault c =
    elim c.known [
      | true ↦
          elim (leb max_faults c.faults) [
            | true ↦ None
            | false ↦ Some (record { value = value_of (thousandths_of c.last); channel = record { known = true; last = c.last; faults = c.faults + 1 } })
          ]
      | false ↦ None
    ]

-- a number that converts is kept as received, and ends the row of faults
abbrev pub sampled_as : Channel → Float → Option ℤ → Option Sampled
sampled_as c x (Some v) = Some (record { value = v; channel = record { known = true; last = x; faults = 0 } })
sampled_as c x None = sampled_fault c

-- what a channel makes of a reading
abbrev pub sampled : Channel → Reading → Option Sampled
sampled c (Volts x) = sampled_as c x (thousandths_of x)
sampled c Break = sampled_fault c
sampled c Short = sampled_fault c

-- what a channel that is refused gives and keeps: no value, and what it had
abbrev pub value_sampled : Option Sampled → ℤ
value_sampled (Some s) = s.value
value_sampled None = pos 0

abbrev pub channel_sampled : Channel → Option Sampled → Channel
channel_sampled c (Some s) = s.channel
channel_sampled c None = c

-- power-on: never good, and 0
abbrev pub fresh_channel : Channel
fresh_channel = record { known = false; last = fin false 0 (pos 0); faults = 0 }

unfoldable pub fresh_channels : List Channel
fresh_channels = replicate channel_count fresh_channel

-- eight readings of 0 volts
abbrev pub zero_readings : List Reading
zero_readings = replicate channel_count (Volts (fin false 0 (pos 0)))

-- sound: never good and 0, or a good reading that converts and at most 25
unfoldable pub is_channel : Channel → Bool
is_channel c = cond c.known (is_some (thousandths_of c.last) && leb c.faults max_faults) (eqb c.faults 0)

-- what stands past the end of a list of channels, and of readings; the logic's own choice for a number is NaN
abbrev pub no_channel : Channel
no_channel = record { known = false; last = nan; faults = 0 }

abbrev pub no_reading : Reading
no_reading = Volts nan

-- the first n are sound
unfoldable pub are_channels : List Channel → ℕ → Bool
are_channels cs zero = true
are_channels cs (suc n) = are_channels cs n && is_channel (get_or cs n no_channel)

-- what the channel i makes of its reading
abbrev pub sampled_at : List Channel → List Reading → ℕ → Option Sampled
sampled_at cs rs i = sampled (get_or cs i no_channel) (get_or rs i no_reading)

-- what it gives, and keeps
abbrev pub given_at : List Channel → List Reading → ℕ → ℤ
given_at cs rs i = value_sampled (sampled_at cs rs i)

abbrev pub kept_at : List Channel → List Reading → ℕ → Channel
kept_at cs rs i = channel_sampled (get_or cs i no_channel) (sampled_at cs rs i)

-- none of the first n refuses
unfoldable pub all_good : List Channel → List Reading → ℕ → Bool
all_good cs rs zero = true
all_good cs rs (suc n) = all_good cs rs n && is_some (sampled_at cs rs n)

-- the values of the first n, and the channels when these have kept theirs
unfoldable pub values_sampled : List Channel → List Reading → ℕ → List ℤ
values_sampled cs rs zero = replicate channel_count (pos 0)
values_sampled cs rs (suc n) = set (values_sampled cs rs n) n (given_at cs rs n)

unfoldable pub channels_sampled : List Channel → List Reading → ℕ → List Channel
channels_sampled cs rs zero = cs
channels_sampled cs rs (suc n) = set (channels_sampled cs rs n) n (kept_at cs rs n)

-- what all channels make of their readings; none where one refuses
unfoldable pub sampled_all : List Channel → List Reading → Option Samples
sampled_all cs rs =
    elim (all_good cs rs channel_count) [
      | true ↦ Some (record { values = values_sampled cs rs channel_count; channels = channels_sampled cs rs channel_count })
      | false ↦ None
    ]

-- their values, and what the channels keep; where one refuses, no value, and all are as they were
abbrev pub values_given : Option Samples → List ℤ
values_given (Some s) = s.values
values_given None = replicate channel_count (pos 0)

abbrev pub channels_kept : List Channel → Option Samples → List Channel
channels_kept cs (Some s) = s.channels
channels_kept cs None = cs
