-- Laws on the faults of a line: FIFO [0] as a right side; a command and an action by their tokens; the loop over actions; a line's parts, 4 before 5 to 10 and 14, DO, the keyword.
use mathlib.Core.Path.{◌≡◌, refl, sym, ap, ◌∙◌}
use mathlib.Core.Bool.{Bool, true, false, ◌&&◌, ◌||◌, not, or-false, or_assoc}
use mathlib.Core.List.{List, [], ◌++◌}
use Prim.Native.Nat.{ℕ, zero, suc, ◌+◌, ◌-◌, ◌<◌, ◌≤◌}
use native.Mathlib.Omega.{arith}
use lib.Dec.{eqb}
use lib.ListN.{get_or, drop}
use borrow.Author.Tests.{not-true, not-false, eq-eqb, ne_eqb}
use Rattle.values.specs.Codes.{too_deep, not_in_grammar}
use Rattle.std.specs.Prelude.{Result, Ok, Err}
use Rattle.checking.specs.declared.line.Line.{Line}
use Rattle.tokens.specs.Token.{set_size, FIFO1, FIFO4, END, EQUALS, OPEN, CLOSE, COMMA, IDS, DO, M, SYNFCT, is_arithmetic, is_variable, is_fifo, is_call, is_naming, is_keyword, is_whole, whole}
use Rattle.tokens.specs.Descent.{Read, read, ends, then, is_indexed, index_at, expression_at}
use Rattle.checking.specs.Fault.{sight, fault_for, is_removal, assignment_at, command_at, is_given, is_synfct, synfct_fault, synfct_at, unindexed_at, action_at, count_fault, moves_fault, moves_at, actions_at, names_from, number_of, judged, line_parts, body_at, rest_at}
use Rattle.tokens.specs.SingleFault.{lower, code_fault, call_fault, curve_fault, read_fault, write_fault, opens_too_many}
use Rattle.values.specs.Choice.{both, chosen, refused}
use Rattle.tokens.specs.BetweenLaws.{tested}
use Rattle.checking.specs.SightNumber.{next_of, truth_of, fault_of, faulted, Noted, body_from}
use Rattle.checking.specs.Brackets.{NoBracket, InGrammar, Joined}
use Rattle.checking.proofs.SightNumberLaws.{Made, faulted-stop, faulted-read}
use Rattle.checking.proofs.BracketCountLaws.{other-high}

-- ---- actions

pub removal : (s : List ℕ) (p w t : ℕ) → w ≡ get_or s p 0 → t ≡ get_or s (p + 4) 0 → is_fifo w && (is_indexed s w p && (eqb (index_at s w p) 0 && not (is_arithmetic t))) ≡ is_removal s p
unfolding is_removal
removal s p w t e f = rw (e, f)

-- it stands there as FIFO and its index
pub removal-tokens : (s : List ℕ) (p : ℕ) → is_removal s p ≡ true → NoBracket (get_or s p 0) × (is_indexed s (get_or s p 0) p ≡ true)
unfolding is_removal
removal-tokens s p h =
    let a = both (is_fifo (get_or s p 0)) _ h in
    (other-high FIFO1 FIFO4 (get_or s p 0) (omega arith) refl a.0, (both (is_indexed s (get_or s p 0) p) _ a.1).0)

-- M=, or SETAL, LOCK or UNLOCK: the word w at p, by the test that told
module _ (s : List ℕ) (kw w p : ℕ) where
  pub no-command : is_whole (get_or s (p + 2) 0) ≡ false → ends not_in_grammar ≡ command_at s kw w p
  unfolding command_at
  no-command h = sym (simp (command_at, h))

  module _ (h : is_whole (get_or s (p + 2) 0) ≡ true) where
    module _ (m : w ≡ M) where
      pub no_code : (get_or s (p + 1) 0 ≡ EQUALS → ⊥) → ends not_in_grammar ≡ command_at s kw w p
      unfolding command_at
      no_code ne = sym (simp (command_at, h, eq-eqb _ _ m, ne_eqb _ _ ne))

      pub a-code : get_or s (p + 1) 0 ≡ EQUALS → read (code_fault kw (whole (get_or s (p + 2) 0))) (p + 3) ≡ command_at s kw w p
      unfolding command_at
      a-code e = sym (simp (command_at, h, eq-eqb _ _ m, eq-eqb _ _ e))

    module _ (m : w ≡ M → ⊥) where
      pub no_call : is_call w ≡ false → ends not_in_grammar ≡ command_at s kw w p
      unfolding command_at
      no_call f = sym (simp (command_at, h, ne_eqb _ _ m, f))

      module _ (f : is_call w ≡ true) where
        pub no-open : (get_or s (p + 1) 0 ≡ OPEN → ⊥) → ends not_in_grammar ≡ command_at s kw w p
        unfolding command_at
        no-open ne = sym (simp (command_at, h, ne_eqb _ _ m, f, ne_eqb _ _ ne))

        pub no-close : get_or s (p + 1) 0 ≡ OPEN → (get_or s (p + 3) 0 ≡ CLOSE → ⊥) → ends not_in_grammar ≡ command_at s kw w p
        unfolding command_at
        no-close e ne = sym (simp (command_at, h, ne_eqb _ _ m, f, eq-eqb _ _ e, ne_eqb _ _ ne))

        pub a_call : get_or s (p + 1) 0 ≡ OPEN → get_or s (p + 3) 0 ≡ CLOSE → read (call_fault w (whole (get_or s (p + 2) 0))) (p + 4) ≡ command_at s kw w p
        unfolding command_at
        a_call e g = sym (simp (command_at, h, ne_eqb _ _ m, f, eq-eqb _ _ e, eq-eqb _ _ g))

-- a word that begins no command
pub no-command-word : (s : List ℕ) (kw w p : ℕ) → eqb w M ≡ false → is_call w ≡ false → command_at s kw w p ≡ ends not_in_grammar
unfolding command_at
no-command-word s kw w p m c = go (is_whole (get_or s (p + 2) 0)) refl
  where
    go : (b : Bool) → is_whole (get_or s (p + 2) 0) ≡ b → command_at s kw w p ≡ ends not_in_grammar
    go true h = simp (command_at, h, m, c)
    go false h = simp (command_at, h)

-- SYNFCT: a , and a variable with its index; and all that stands behind the word at p
pub given : (s : List ℕ) (p t w : ℕ) → t ≡ get_or s p 0 → w ≡ get_or s (p + 1) 0 → eqb t COMMA && (is_variable w && is_indexed s w (p + 1)) ≡ is_given s p
unfolding is_given
given s p t w e f = rw (e, f)

pub behind-synfct : (s : List ℕ) (p t n u : ℕ) → t ≡ get_or s (p + 1) 0 → n ≡ get_or s (p + 2) 0 → u ≡ get_or s (p + 13) 0 → eqb t OPEN && (is_whole n && (is_given s (p + 3) && (is_given s (p + 8) && eqb u CLOSE))) ≡ is_synfct s p
unfolding is_synfct
behind-synfct s p t n u e f g = rw (e, f, g)

-- its faults, one by one
pub synfct-faults : (s : List ℕ) (p : ℕ) {t n f w i g v j h k x : ℕ} → t ≡ get_or s (p + 2) 0 → n ≡ whole t → f ≡ curve_fault n → w ≡ get_or s (p + 4) 0 → i ≡ index_at s w (p + 4) → g ≡ write_fault w i →
    v ≡ get_or s (p + 9) 0 → j ≡ index_at s v (p + 9) → h ≡ read_fault v j → k ≡ lower g h → x ≡ lower f k → x ≡ synfct_fault s p
unfolding synfct_fault
synfct-faults s p t n f w i g v j h k x = rw (x, k, f, n, t, g, i, w, h, j, v)

module _ (s : List ℕ) (p : ℕ) where
  pub synfct-none : is_synfct s p ≡ false → ends not_in_grammar ≡ synfct_at s p
  unfolding synfct_at
  synfct-none h = sym (simp (synfct_at, h))

  pub synfct-read : is_synfct s p ≡ true → read (synfct_fault s p) (p + 14) ≡ synfct_at s p
  unfolding synfct_at
  synfct-read h = sym (simp (synfct_at, h))

  -- the word w at p has no index behind it
  module _ (kw w : ℕ) where
    pub word-synfct : w ≡ SYNFCT → synfct_at s p ≡ unindexed_at s kw w p
    unfolding unindexed_at
    word-synfct e = sym (simp (unindexed_at, eq-eqb _ _ e))

    pub word-command : (w ≡ SYNFCT → ⊥) → command_at s kw w p ≡ unindexed_at s kw w p
    unfolding unindexed_at
    word-command ne = sym (simp (unindexed_at, ne_eqb _ _ ne))

-- no action begins with the line's end
pub no-action : (s : List ℕ) (kw k p : ℕ) → get_or s p 0 ≡ END → action_at s kw k p ≡ ends not_in_grammar
unfolding action_at assignment_at unindexed_at
no-action s kw k p e = go (is_indexed s (get_or s p 0) p) (eqb (get_or s (p + 4) 0) EQUALS) refl refl
  where
    go : (a b : Bool) → is_indexed s (get_or s p 0) p ≡ a → eqb (get_or s (p + 4) 0) EQUALS ≡ b → action_at s kw k p ≡ ends not_in_grammar
    go true true h i = simp (action_at, h, i) (ap (λ (w : ℕ). assignment_at s k w p) e)
    go true false h i = simp (action_at, h, i)
    go false b h i = simp (action_at, h) (ap (λ (w : ℕ). unindexed_at s kw w p) e ∙ no-command-word s kw 0 p refl refl)

-- an action, by its first token
module _ (s : List ℕ) (kw k p w : ℕ) (e : w ≡ get_or s p 0) where
  pub action-unindexed : is_indexed s w p ≡ false → unindexed_at s kw w p ≡ action_at s kw k p
  unfolding action_at
  action-unindexed h = rw e (sym (simp (action_at, rw e at h)))

  module _ (h : is_indexed s w p ≡ true) where
    pub action-wrong : (get_or s (p + 4) 0 ≡ EQUALS → ⊥) → ends not_in_grammar ≡ action_at s kw k p
    unfolding action_at
    action-wrong ne = sym (simp (action_at, rw e at h, ne_eqb _ _ ne))

    pub action-assigns : get_or s (p + 4) 0 ≡ EQUALS → assignment_at s k w p ≡ action_at s kw k p
    unfolding action_at
    action-assigns z = rw e (sym (simp (action_at, rw e at h, eq-eqb _ _ z)))

pub acts-none : (s : List ℕ) (kw k t n : ℕ) (m : List ℕ) (f p : ℕ) → t ≤ 0 → actions_at s kw k t n m f p ≡ ends not_in_grammar
unfolding actions_at
acts-none s kw k t n m f p l =
    let z : t ≡ 0 = omega arith in
    rw z

-- one action and what follows it
module _ (s : List ℕ) (kw k t n : ℕ) (m : List ℕ) (f p : ℕ) (l : 0 < t) where
  -- what follows an action
  after : ℕ → ℕ → ℕ → Read ℕ
  after j g q = elim (eqb (get_or s q 0) END) [ true ↦ read (lower (lower f g) (lower (count_fault (n + 1)) (moves_fault (m ++ moves_at s p)))) q | false ↦ actions_at s kw k j (n + 1) (m ++ moves_at s p) (lower f g) q ]

  one : then (action_at s kw k p) (after (t - 1)) ≡ actions_at s kw k t n m f p
  unfolding after actions_at
  one = go t l
    where
      go : (t : ℕ) → 0 < t → then (action_at s kw k p) (after (t - 1)) ≡ actions_at s kw k t n m f p
      go zero z = absurd (omega arith)
      go (suc j) z = let q : suc j - 1 ≡ j = omega arith in rw q

  acts-stop : action_at s kw k p ≡ ends not_in_grammar → ends not_in_grammar ≡ actions_at s kw k t n m f p
  acts-stop e = ap (λ (x : Read ℕ). then x (after (t - 1))) (sym e) ∙ one

  module _ (g q : ℕ) (e : action_at s kw k p ≡ read g q) where
    reaches : after (t - 1) g q ≡ actions_at s kw k t n m f p
    reaches = ap (λ (x : Read ℕ). then x (after (t - 1))) (sym e) ∙ one

    acts-end : get_or s q 0 ≡ END → read (lower (lower f g) (lower (count_fault (n + 1)) (moves_fault (m ++ moves_at s p)))) q ≡ actions_at s kw k t n m f p
    unfolding after
    acts-end z = sym (rw (after, eq-eqb _ _ z)) ∙ reaches

    acts-on : (get_or s q 0 ≡ END → ⊥) → actions_at s kw k (t - 1) (n + 1) (m ++ moves_at s p) (lower f g) q ≡ actions_at s kw k t n m f p
    unfolding after
    acts-on ne = sym (rw (after, ne_eqb _ _ ne)) ∙ reaches

    names-end : get_or s q 0 ≡ END → is_naming (get_or s p 0) ≡ names_from s kw k t p
    unfolding names_from
    names-end z = sym (go t l)
      where
        go : (t : ℕ) → 0 < t → names_from s kw k t p ≡ is_naming (get_or s p 0)
        go zero i = absurd (omega arith)
        go (suc j) i = simp (names_from, e, eq-eqb _ _ z) (or-false (is_naming (get_or s p 0)))

    names-on : (get_or s q 0 ≡ END → ⊥) → (is_naming (get_or s p 0) || names_from s kw k (t - 1) q) ≡ names_from s kw k t p
    unfolding names_from
    names-on ne = go t l
      where
        go : (t : ℕ) → 0 < t → (is_naming (get_or s p 0) || names_from s kw k (t - 1) q) ≡ names_from s kw k t p
        go zero i = absurd (omega arith)
        go (suc j) i = let x : suc j - 1 ≡ j = omega arith in rw x (sym (simp (names_from, e, ne_eqb _ _ ne)))

fault-in : Read ℕ → ℕ
fault-in (read f q) = f
fault-in (ends k) = k

-- one round of the loop over the actions: `low` tells of what was read before it, up to p, a of the next action, x of both, up to i
pub record Round (s : List ℕ) (kw k t n : ℕ) (m : List ℕ) (low a x p i : ℕ) (whole : Read ℕ) : Type 0 where
  pub left : 0 < t
  pub from : p ≡ next_of low
  pub begun : InGrammar low
  pub all : then (faulted low) (actions_at s kw k t n m) ≡ whole
  pub action : faulted a ≡ action_at s kw k p
  pub joins : faulted x ≡ then (faulted a) (λ g q. read (lower (fault_of low) g) q)
  pub joined : Joined low a x
  pub to : i ≡ next_of x

module _ {s : List ℕ} {kw k t n : ℕ} {m : List ℕ} {low a x p i : ℕ} {whole : Read ℕ} (r : Round s kw k t n m low a x p i whole) where
  all_from : actions_at s kw k t n m (fault_of low) p ≡ whole
  all_from = ap (λ (y : Read ℕ). then y (actions_at s kw k t n m)) (sym (faulted-read low r.from (λ z. r.begun (sym r.from ∙ z)))) ∙ r.all

  pub round-stops : i ≡ 0 → ends not_in_grammar ≡ whole
  round-stops z = acts-stop s kw k t n m (fault_of low) p r.left (sym r.action ∙ faulted-stop a (r.to ∙ r.joined.next) z) ∙ all_from

  module _ (o : i ≡ 0 → ⊥) where
    pub next-action : faulted a ≡ read (fault_of a) i
    next-action = faulted-read a (r.to ∙ r.joined.next) o

    all-so-far : faulted x ≡ read (lower (fault_of low) (fault_of a)) i
    all-so-far = r.joins ∙ ap (λ (y : Read ℕ). then y (λ g q. read (lower (fault_of low) g) q)) next-action

    lowest-so-far : fault_of x ≡ lower (fault_of low) (fault_of a)
    unfolding fault-in
    lowest-so-far = ap fault-in (sym (faulted-read x r.to o) ∙ all-so-far)

    pub round-ends : get_or s i 0 ≡ END → read (lower (fault_of x) (lower (count_fault (n + 1)) (moves_fault (m ++ moves_at s p)))) i ≡ whole
    round-ends z = ap (λ (f : ℕ). read (lower f (lower (count_fault (n + 1)) (moves_fault (m ++ moves_at s p)))) i) lowest-so-far ∙ acts-end s kw k t n m (fault_of low) p r.left (fault_of a) i (sym r.action ∙ next-action) z ∙ all_from

    pub round-goes : (get_or s i 0 ≡ END → ⊥) → then (faulted x) (actions_at s kw k (t - 1) (n + 1) (m ++ moves_at s p)) ≡ whole
    round-goes ne = ap (λ (y : Read ℕ). then y (actions_at s kw k (t - 1) (n + 1) (m ++ moves_at s p))) all-so-far ∙ acts-on s kw k t n m (fault_of low) p r.left (fault_of a) i (sym r.action ∙ next-action) ne ∙ all_from

    -- whether a line was named before, b, and with this action, c; u is its first token
    module _ (b : Bool) {c all : Bool} {u : ℕ} (v : u ≡ get_or s p 0) (d : c ≡ (b || is_naming u)) (h : (b || names_from s kw k t (next_of low)) ≡ all) where
      named : c ≡ (b || is_naming (get_or s p 0))
      named = d ∙ ap (λ (w : ℕ). b || is_naming w) v

      all_named : (b || names_from s kw k t p) ≡ all
      all_named = ap (λ (q : ℕ). b || names_from s kw k t q) r.from ∙ h

      pub round-noted : get_or s i 0 ≡ END → c ≡ all
      round-noted z = named ∙ ap (λ (y : Bool). b || y) (names-end s kw k t n m (fault_of low) p r.left (fault_of a) i (sym r.action ∙ next-action) z) ∙ all_named

      pub round-names : (get_or s i 0 ≡ END → ⊥) → (c || names_from s kw k (t - 1) (next_of x)) ≡ all
      round-names ne =
          rw (named, ← r.to) (or_assoc b (is_naming (get_or s p 0)) (names_from s kw k (t - 1) i)) ∙
          ap (λ (y : Bool). b || y) (names-on s kw k t n m (fault_of low) p r.left (fault_of a) i (sym r.action ∙ next-action) ne) ∙ all_named

-- ---- a line

module _ (s : List ℕ) (p kw cp b : ℕ) where
  faulty-parts : (f e : ℕ) → (f ≡ 0 → ⊥) → line_parts s p kw cp b (read f e) ≡ Err f
  unfolding line_parts
  faulty-parts f e ne = simp (line_parts, ne_eqb _ _ ne)

  good-parts : (e : ℕ) → line_parts s p kw cp b (read 0 e) ≡ Ok (record { number = number_of (whole (get_or s (p + 2) 0)); ids = eqb (get_or s p 0) IDS; keyword = kw; condition = cp; actions = b; end = e; names = names_from s kw set_size set_size b })
  unfolding line_parts
  good-parts e = refl

  -- a tells of all that was read
  module _ (a : ℕ) {q : ℕ} (h : q ≡ next_of a) where
    pub parts-end : q ≡ 0 → line_parts s p kw cp b (faulted a) ≡ Err not_in_grammar
    unfolding line_parts
    parts-end g = ap (line_parts s p kw cp b) (faulted-stop a h g)

    module _ (g : q ≡ 0 → ⊥) {f : ℕ} (m : f ≡ fault_of a) where
      pub parts-faulty : (f ≡ 0 → ⊥) → line_parts s p kw cp b (faulted a) ≡ Err f
      parts-faulty ne = ap (line_parts s p kw cp b) (faulted-read a h g ∙ ap (λ (x : ℕ). read x q) (sym m)) ∙ faulty-parts _ _ ne

      pub parts-good : {n : ℕ} {i j : Bool} → f ≡ 0 → n ≡ number_of (whole (get_or s (p + 2) 0)) → i ≡ eqb (get_or s p 0) IDS → j ≡ truth_of a → Noted s kw b a →
          ◌≡◌ {A = Result Line ℕ} (Ok (record { number = n; ids = i; keyword = kw; condition = cp; actions = b; end = q; names = j })) (line_parts s p kw cp b (faulted a))
      parts-good z e r t u = rw (e, r, t ∙ u (λ y. g (h ∙ y))) (sym (ap (line_parts s p kw cp b) (faulted-read a h g ∙ ap (λ (x : ℕ). read x q) (sym m ∙ z)) ∙ good-parts q))

-- 4 comes first
module _ (s : List ℕ) (p : ℕ) (l : Result Line ℕ) {o : Bool} (e : o ≡ opens_too_many (drop p s) 0) where
  pub judged-deep : o ≡ true → Err too_deep ≡ judged s p l
  judged-deep h = sym (chosen _ _ _ (sym e ∙ h))

  pub judged-not : o ≡ false → l ≡ judged s p l
  judged-not h = sym (refused _ _ _ (sym e ∙ h))

-- DO stands at q, or does not
module _ (s : List ℕ) (p kw cp f q : ℕ) {t : ℕ} (e : t ≡ get_or s q 0) where
  pub body-none : (t ≡ DO → ⊥) → Err not_in_grammar ≡ body_at s p kw cp f q
  unfolding body_at
  body-none h = sym (simp (body_at, ne_eqb (get_or s q 0) DO (λ z. h (e ∙ z))))

  -- w tells of what was read up to the place behind DO, x of the actions too
  pub body-does : t ≡ DO → {d w : ℕ} (x : ℕ) → Made f d (q + 1) w → faulted x ≡ actions_at s kw set_size set_size 0 [] (fault_of w) (next_of w) → line_parts s p kw cp (q + 1) (faulted x) ≡ body_at s p kw cp f q
  unfolding body_at
  body-does h {w = w} x k j =
      ap (line_parts s p kw cp (q + 1)) (j ∙ ap (λ (g : ℕ). actions_at s kw set_size set_size 0 [] g (next_of w)) k.fault ∙ ap (λ (r : ℕ). actions_at s kw set_size set_size 0 [] f r) k.next) ∙ sym (simp (body_at, eq-eqb (get_or s q 0) DO (sym e ∙ h)))

-- behind the head: no keyword, or the keyword kw
module _ (s : List ℕ) (p f kw : ℕ) {o : Bool} (k : kw ≡ get_or s (p + 3) 0) (i : o ≡ is_keyword kw) where
  pub rest-always : not o ≡ true → body_at s p 0 0 f (p + 3) ≡ rest_at s p f
  unfolding rest_at
  rest-always h = sym (simp (rest_at, tested is_keyword k i (not-true o h)))

  pub rest-keyword : not o ≡ false → body_from s p kw (p + 4) (then (fault_for true (expression_at s sight set_size (p + 4))) (λ g q. read (lower f g) q)) ≡ rest_at s p f
  unfolding rest_at
  rest-keyword h = go (fault_for true (expression_at s sight set_size (p + 4))) refl
    where
      go : (x : Read ℕ) → fault_for true (expression_at s sight set_size (p + 4)) ≡ x → body_from s p kw (p + 4) (then x (λ g q. read (lower f g) q)) ≡ rest_at s p f
      go (read g q) e = sym (simp (rest_at, tested is_keyword k i (not-false o h), e) (rw k refl))
      go (ends n) e = sym (simp (rest_at, tested is_keyword k i (not-false o h), e))
