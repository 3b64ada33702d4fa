-- The proved table of document 01 ("On both sides of each edge"): every case marked P, from the load of the set text on, each from power-on. One list of cases, one statement, computed over the
-- definitions of loading, of a beat and of the host's calls. Assumes nothing.
use Rattle.std.specs.Prelude.{true, List, [], ◌∷◌, ◌++◌, map, reverse, ℕ, ℤ, pos, negsuc, length, get_or, take, replicate}
use Prim.Native.String.{String}
use Rattle.values.specs.Codes.{out_of_range, zero_divisor, fifo_full}
use Rattle.engine.specs.Order.{four_bytes}
use Rattle.values.specs.Complement.{twos_complement}
use Rattle.working.specs.Variables.{position_count}
use Rattle.engine.specs.declared.state.State.{State}
use Rattle.couplers.specs.Channel.{zero_readings}
use Rattle.engine.specs.Beat.{buffer_size}
use Rattle.text.specs.Byte.{bytes}
use Rattle.reader.specs.declared.load_text.Loaded.{Loaded}
use Rattle.reader.specs.Load.{load_answer, load_set}
use Rattle.soundness.specs.Call.{Call, do_beat, do_lock, do_unlock}
use Rattle.demands.specs.Run.{Reply, Now, run_from}
use Rattle.demands.specs.Asks.{newly_loaded}

-- ---- what a case says

-- an order: line, kind, target, value
abbrev pub AnOrder : Type 0
AnOrder = ℕ × ℕ × ℕ × ℤ

-- what is shown of a call: its code, the number of orders, the word of the lines that acted, the first bytes of the order buffer
abbrev pub Shown : Type 0
Shown = ℕ × ℕ × ℕ × List ℕ

-- a set text, the calls after its load, what each of them gives, and what $R[1] is afterwards
pub record Case : Type 0 where
  pub text : String
  pub calls : List Call
  pub gives : List Shown
  pub r1 : ℤ

-- kind, line number, target, 0, the value
abbrev pub eight : AnOrder → List ℕ
eight o = o.1 ∷ o.0 ∷ o.2 ∷ 0 ∷ four_bytes (twos_complement o.3)

abbrev pub in_bytes : List AnOrder → List ℕ
in_bytes [] = []
in_bytes (o ∷ os) = eight o ++ in_bytes os

-- each byte of the order buffer as it is lent, and how many of them are compared
abbrev pub lent_byte : ℕ
lent_byte = 99

abbrev pub compared : ℕ
compared = 64

-- a beat gives this code, this word and these orders; the bytes behind the last order stay
abbrev pub gives : ℕ → ℕ → List AnOrder → Shown
gives code acted os = (code, length os, acted, take compared (in_bytes os ++ replicate compared lent_byte))

-- a host's call gives this code
abbrev pub answers : ℕ → Shown
answers code = (code, 0, 0, [])

-- a beat in AUTOMATIC with this input word
abbrev pub on : ℕ → Call
on word = do_beat (record { automatic = true; word = word; readings = zero_readings; lent = replicate position_count (pos 0); buffer = replicate buffer_size lent_byte })

-- what the control gave: the load's code and line, each call's reply, and $R[1] afterwards
abbrev pub shown : Loaded → Now State → ℕ × ℕ × List Shown × ℤ
shown l n =
    (l.code, l.line, map (λ (x : Call × Reply). (x.1.code, x.1.orders, x.1.acted, take compared x.1.buffer)) (reverse n.told), get_or n.kept.r 1 (pos 0))

-- so from the load of the text on, with the set and the state that it returns
abbrev pub outcome_of : Case → ℕ × ℕ × List Shown × ℤ
outcome_of c = shown (load_answer (bytes c.text)) (run_from (load_set (bytes c.text)) c.calls (newly_loaded (bytes c.text)).since)

-- what document 01 says: the text is taken, with code 0 and line 0, and then what the case has
abbrev pub expected : Case → ℕ × ℕ × List Shown × ℤ
expected c = (0, 0, c.gives, c.r1)

-- ---- the cases

-- a WHEN line that writes a variable and gives orders, and a later line that raises 31 while input 2 is on
abbrev pub undone : String
undone = "ID=1 WHEN $A_IN[1]==1 DO $R[1]=$R[1]+1 POS[X]=$R[1] M=7\nID=2 WHENEVER $A_IN[2]==1 DO $R[2]=1/0"

-- 1/3 is 0.333, -1/3 is -0.333; 0.001*0.5 is 0
-- 1000000*1 passes; 1000000+0.001 gives 30; 1/0 gives 31
-- marker from 1.999: 2; from -1.999: -2 (document 02)
-- EVERY (bit 1) on inputs 1 1 0 1 acts in beats 1 and 4; WHEN (2) in 1; FROM (4) in 1 to 4; WHENEVER (8) in 1, 2, 4
-- EVERY, true, then locked three beats with the input still high, then unlocked: no second act
-- WHEN acts, a later line raises 31: the beat is undone, its write to $R[1] and its orders too; it acts in the next good beat, on $R[1] as it was
-- a timer set to 0 in beat 1: >=1 is first true in beat 251
-- FIFO of 16 values: a seventeenth gives 33; $AC_FIFO1[0]=$AC_FIFO1[0] on it passes
unfoldable pub cases : List Case
cases =
    record { text = "ID=1 DO POS[X]=1/3 POS[Y]=-1/3 POS[Z]=0.001*0.5"; calls = on 0 ∷ []; gives = gives 0 1 ((1, 1, 1, pos 333) ∷ (1, 1, 2, negsuc 332) ∷ (1, 1, 3, pos 0) ∷ []) ∷ []; r1 = pos 0 }
    ∷ record { text = "ID=1 DO POS[X]=1000000*1"; calls = on 0 ∷ []; gives = gives 0 1 ((1, 1, 1, pos 1000000000) ∷ []) ∷ []; r1 = pos 0 }
    ∷ record { text = "ID=1 DO POS[X]=1000000+0.001"; calls = on 0 ∷ []; gives = gives out_of_range 0 [] ∷ []; r1 = pos 0 }
    ∷ record { text = "ID=1 DO POS[X]=1/0"; calls = on 0 ∷ []; gives = gives zero_divisor 0 [] ∷ []; r1 = pos 0 }
    ∷ record { text = "ID=1 DO $AC_MARKER[0]=1.999 $AC_MARKER[1]=-1.999 POS[X]=$AC_MARKER[0] POS[Y]=$AC_MARKER[1]"; calls = on 0 ∷ []; gives = gives 0 1 ((1, 1, 1, pos 2000) ∷ (1, 1, 2, negsuc 1999) ∷ []) ∷ []; r1 = pos 0 }
    ∷ record {
      text = "ID=1 EVERY $A_IN[1]==1 DO $R[1]=1\nID=2 WHEN $A_IN[1]==1 DO $R[1]=1\nID=3 FROM $A_IN[1]==1 DO $R[1]=1\nID=4 WHENEVER $A_IN[1]==1 DO $R[1]=1";
      calls = on 1 ∷ on 1 ∷ on 0 ∷ on 1 ∷ [];
      gives = gives 0 15 [] ∷ gives 0 12 [] ∷ gives 0 4 [] ∷ gives 0 13 [] ∷ [];
      r1 = pos 1000;
    }
    ∷ record {
      text = "ID=1 EVERY $A_IN[1]==1 DO M=7";
      calls = on 1 ∷ do_lock 1 ∷ on 1 ∷ on 1 ∷ on 1 ∷ do_unlock 1 ∷ on 1 ∷ [];
      gives = gives 0 1 ((1, 4, 0, pos 7) ∷ []) ∷ answers 0 ∷ gives 0 0 [] ∷ gives 0 0 [] ∷ gives 0 0 [] ∷ answers 0 ∷ gives 0 0 [] ∷ [];
      r1 = pos 0;
    }
    ∷ record { text = undone; calls = on 3 ∷ []; gives = gives zero_divisor 0 [] ∷ []; r1 = pos 0 }
    ∷ record {
      text = undone;
      calls = on 3 ∷ on 1 ∷ on 1 ∷ [];
      gives = gives zero_divisor 0 [] ∷ gives 0 1 ((1, 1, 1, pos 1000) ∷ (1, 4, 0, pos 7) ∷ []) ∷ gives 0 0 [] ∷ [];
      r1 = pos 1000;
    }
    ∷ record {
      text = "ID=1 WHEN TRUE DO $AC_TIMER[0]=0\nID=2 WHEN $AC_TIMER[0]>=1 DO M=1";
      calls = replicate 252 (on 0);
      gives = gives 0 1 [] ∷ replicate 249 (gives 0 0 []) ++ (gives 0 2 ((2, 4, 0, pos 1) ∷ []) ∷ gives 0 0 [] ∷ []);
      r1 = pos 0;
    }
    ∷ record {
      text = "ID=1 WHEN TRUE DO $AC_FIFO1[0]=1 $AC_FIFO1[0]=2 $AC_FIFO1[0]=3 $AC_FIFO1[0]=4 $AC_FIFO1[0]=5 $AC_FIFO1[0]=6 $AC_FIFO1[0]=7 $AC_FIFO1[0]=8\nID=2 WHEN TRUE DO $AC_FIFO1[0]=9 $AC_FIFO1[0]=10 $AC_FIFO1[0]=11 $AC_FIFO1[0]=12 $AC_FIFO1[0]=13 $AC_FIFO1[0]=14 $AC_FIFO1[0]=15 $AC_FIFO1[0]=16\nID=3 WHENEVER $A_IN[1]==1 DO $AC_FIFO1[0]=17\nID=4 WHENEVER $A_IN[2]==1 DO $AC_FIFO1[0]=$AC_FIFO1[0] POS[X]=$AC_FIFO1[1] POS[Y]=$AC_FIFO1[2]";
      calls = on 0 ∷ on 1 ∷ on 2 ∷ [];
      gives = gives 0 3 [] ∷ gives fifo_full 0 [] ∷ gives 0 8 ((4, 1, 1, pos 2000) ∷ (4, 1, 2, pos 1000) ∷ []) ∷ [];
      r1 = pos 0;
    }
    ∷ []
