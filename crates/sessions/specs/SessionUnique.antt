-- Any two results that a session's promise allows are equal: for each public call, its answer and what is lent. Assumes nothing.
use Rattle.std.specs.Prelude.{◌≡◌, Bool, List, ℕ, length}
use Rattle.values.specs.Unique.{unique}
use Rattle.values.specs.PutAt.{put_at}
use Rattle.transcript.specs.declared.session.Session.{Session}
use Rattle.transcript.specs.declared.session.Stepped.{Stepped}
use Rattle.transcript.specs.declared.view.View.{View}
use Rattle.transcript.specs.Intake.{is_over}
use Rattle.transcript.specs.Machine.{begun, finished_text, worked}
use Rattle.transcript.specs.SessionAnswers.{machine_of, step_answer}

pub begin-unique : (view : View) (x y : Session) → x ≡ begun view → y ≡ begun view → x ≡ y
begin-unique view x y p q = unique p q

pub over-unique : (session : Session) (x y : Bool) → x ≡ is_over session.intake → y ≡ is_over session.intake → x ≡ y
over-unique session x y p q = unique p q

module _ (session : Session) (text set out : List ℕ) where
  -- a step, with the kept text, the set and the buffer at exit
  pub step-unique : (input : List ℕ) (x y : Stepped) (t u s v c d : List ℕ) →
      let w = worked (machine_of text set session) input in
      x ≡ step_answer w → t ≡ w.machine.text → s ≡ w.machine.set → c ≡ put_at out 0 w.output →
      y ≡ step_answer w → u ≡ w.machine.text → v ≡ w.machine.set → d ≡ put_at out 0 w.output → (x ≡ y) × (t ≡ u) × (s ≡ v) × (c ≡ d)
  step-unique input x y t u s v c d e f g h k l m n = (unique e k, unique f l, unique g m, unique h n)

  -- the end of input, with the buffer at exit
  pub finish-unique : (x y : ℕ) (c d : List ℕ) →
      x ≡ length (finished_text (machine_of text set session)) → c ≡ put_at out 0 (finished_text (machine_of text set session)) →
      y ≡ length (finished_text (machine_of text set session)) → d ≡ put_at out 0 (finished_text (machine_of text set session)) → (x ≡ y) × (c ≡ d)
  finish-unique x y c d p q r s = (unique p r, unique q s)
