-- THE NAMES OF A LINE BY ITS TREE: the check of the names in a line's tokens finds each known exactly if each name in the line's tree is; so it does in a line of which the check of its actions notes none. Nothing is assumed.
use Rattle.std.specs.Prelude.{Ok, ◌≡◌, Bool, ◌&&◌}
use Rattle.std.proofs.Math.Path.{refl, ap}
use Rattle.std.proofs.Common.{sym, ◌∙◌, eq-eqb, ne_eqb, le-leb}
use Rattle.std.proofs.Math.Bool.{true, false, and_assoc, and-true}
use Rattle.std.proofs.lemmas.Bool.{false≢true}
use mathlib.Core.List.{List, [], ◌∷◌, ◌++◌}
use Prim.Native.Nat.{ℕ, zero, suc, ◌+◌, ◌-◌, ◌≤◌, ◌<◌}
use native.Mathlib.Omega.{arith}
use Rattle.std.proofs.Math.Dec.{eqb}
use Rattle.std.proofs.Math.ListN.{length, length-append}
use Rattle.values.specs.Choice.{told-so, both, decide, chosen, refused, and-true as and_both}
use Rattle.tokens.specs.Token.{END, EQUALS, OPEN, CLOSE, LEFT, RIGHT, DO, ID, IDS, IM, IN, FIFO4, X, W, POS, MOV, WHEN, EVERY, LOCK, SETAL, UNLOCK, SYNFCT, COMMA, is_lock, is_naming, whole, whole_token, set_size}
use Rattle.tokens.specs.Descent.{token}
use Rattle.checking.specs.Fault.{fault_of_line, line_at}
use Rattle.checking.specs.declared.line.Line.{Line as Told}
use Rattle.grammar.specs.Tree.{Sum, Action, assign, assign_position, drive, code, call, synfct, place_tokens, Condition, always, under, Line, line, sum_tokens, action_tokens, actions_tokens, condition_tokens, line_tokens}
use Rattle.grammar.specs.Meaning.{Stands}
use Rattle.grammar.specs.TreeFault.{parts_from}
use Rattle.grammar.specs.TreeNames.{Name, action_names, actions_names, names_in, has_names, each_known}
use Rattle.grammar.specs.AgreementLaws.{bounds, stands-split, whole-token}
use Rattle.grammar.specs.AgreementLine.{line-written, line-fault, line-parts, not-deep}
use Rattle.grammar.specs.ClosedTokens.{Plain, plain-sum, plain-expression, plain-synfct, line-fits}
use Rattle.engine.specs.Set.{names_known}

pub each_append : (known : ℕ → ℕ → Bool) (l m : List Name) → each_known known (l ++ m) ≡ (each_known known l && each_known known m)
unfolding each_known
each_append known [] m = refl
each_append known (n ∷ l) m = rw (each_append known l m) (sym (and_assoc (known n.word n.number) (each_known known l) (each_known known m)))

-- names that are known by a table are known by one that has all of it
pub each-so : (known more : ℕ → ℕ → Bool) (l : List Name) → ((w n : ℕ) → known w n ≡ true → more w n ≡ true) → each_known known l ≡ true → each_known more l ≡ true
unfolding each_known
each-so known more [] f h = refl
each-so known more (n ∷ l) f h = let (a, b) = both (known n.word n.number) (each_known known l) h in and_both (f n.word n.number a) (each-so known more l f b)

-- a token of a row that names nothing is no word that names
no-naming : (t : ℕ) → (LOCK ≤ t → SYNFCT < t) → is_naming t ≡ false
no-naming t h =
    rw (ne_eqb t SYNFCT (λ e. let l = h (omega arith) in omega arith))
    (decide _ (is_lock t) (λ e. let b = bounds LOCK UNLOCK t (told-so _ e) in let l = h b.0 in absurd (omega arith)) (λ e. rw e))

-- LOCK and UNLOCK name
lock-names : (t : ℕ) → is_lock t ≡ true → is_naming t ≡ true
lock-names t e = rw e

module _ (s : List ℕ) (known : ℕ → ℕ → Bool) where
  -- behind a row that names nothing
  names-behind : (l : List ℕ) (p i left m : ℕ) → Plain l → Stands s p l i → left ≡ length l + m → names_known s known left p ≡ names_known s known m i
  unfolding names_known
  names-behind [] p i left m c h e = let z : left ≡ m = omega arith in rw (z, h)
  names-behind (t ∷ l) p i zero m c h e = absurd (omega arith)
  names-behind (t ∷ l) p i (suc left) m c h e =
      let x : eqb (token s p) END ≡ false = rw h.0 (ne_eqb t END (λ z. let y = c.0 in omega arith)) in
      let y : is_naming (token s p) ≡ false = rw h.0 (no-naming t c.1) in
      refused _ _ _ x ∙ refused _ _ _ y ∙ names-behind l (p + 1) i left m c.2 h.1 (omega arith)

  -- one that names a number n: the word, and what stands two places behind it
  names-one : (left p w n : ℕ) → token s p ≡ w → 0 < w → is_naming w ≡ true → whole (token s (p + 2)) ≡ n → names_known s known (suc left) p ≡ (known w n && names_known s known left (p + 1))
  unfolding names_known
  names-one left p w n e z k h =
      let x : eqb (token s p) END ≡ false = rw e (ne_eqb w END (λ y. omega arith)) in
      let y : is_naming (token s p) ≡ true = rw e k in
      refused _ _ _ x ∙ chosen _ _ _ y ∙ rw (e, h) (as-and (known w n) (names_known s known left (p + 1)))
    where
      as-and : (a b : Bool) → elim a as (λ _. Bool) [ true ↦ b | false ↦ false ] ≡ (a && b)
      as-and true b = refl
      as-and false b = refl

  -- a word that names n, and a row that names nothing behind it
  named-number : (w t n : ℕ) (l : List ℕ) (p q left m : ℕ) → 0 < w → is_naming w ≡ true → Plain (t ∷ whole_token n ∷ l) → Stands s p (w ∷ t ∷ whole_token n ∷ l) q → suc left ≡ suc (suc (suc (length l))) + m →
      names_known s known (suc left) p ≡ (known w n && names_known s known m q)
  named-number w t n l p q left m z k c h e =
      let two : p + 1 + 1 ≡ p + 2 = omega arith in
      let i : whole (token s (p + 2)) ≡ n = rw (rw two at h.1.1.0) (whole-token n).1 in
      names-one left p w n h.0 z k i ∙ rw (names-behind (t ∷ whole_token n ∷ l) (p + 1) q left m c h.1 (omega arith))

  -- w[t]= and a right side behind it
  plain-right : (w t : ℕ) (a : Sum) → (0 < w) × (w < LOCK) → (0 < t) × (LOCK ≤ t → SYNFCT < t) → Plain (w ∷ LEFT ∷ t ∷ RIGHT ∷ EQUALS ∷ sum_tokens a)
  plain-right w t a h g = (h.0, omega arith, (omega arith, omega arith, (g.0, g.1, (omega arith, omega arith, (omega arith, omega arith, plain-sum a)))))

  -- an action: what it names is known, and what is named behind it
  action-names : (a : Action) (p q left m : ℕ) → Stands s p (action_tokens a) q → left ≡ length (action_tokens a) + m → names_known s known left p ≡ (each_known known (action_names a) && names_known s known m q)
  unfolding action_tokens each_known
  action-names (assign w v i a) p q left m h e = let b = bounds IN FIFO4 w v in names-behind (action_tokens (assign w v i a)) p q left m (plain-right w (whole_token i) a (omega arith) (omega arith)) h e
  action-names (assign_position x v a) p q left m h e = let b = bounds X W x v in names-behind (action_tokens (assign_position x v a)) p q left m (plain-right IM x a (omega arith) (omega arith)) h e
  action-names (drive w v x u a) p q left m h e =
      let b = bounds POS MOV w v in let c = bounds X W x u in names-behind (action_tokens (drive w v x u a)) p q left m (plain-right w x a (omega arith) (omega arith)) h e
  action-names (code n) p q left m h e = names-behind (action_tokens (code n)) p q left m (omega arith) h e
  action-names (call w v n) p q zero m h e = absurd (omega arith)
  action-names (call w v n) p q (suc left) m h e =
      let b = bounds SETAL UNLOCK w v in
      let behind : Plain (OPEN ∷ whole_token n ∷ CLOSE ∷ []) = omega arith in
      decide _ (is_naming w)
      (λ k.
      let one : each_known known (action_names (call w v n)) ≡ known w n = ap (each_known known) (chosen (is_naming w) (record { word = w; number = n } ∷ []) [] k) ∙ and-true (known w n) in
      named-number w OPEN n (CLOSE ∷ []) p q left m (omega arith) k behind h e ∙ rw one)
      (λ k.
      let none : each_known known (action_names (call w v n)) ≡ true = ap (each_known known) (refused (is_naming w) (record { word = w; number = n } ∷ []) [] k) in
      names-behind (action_tokens (call w v n)) p q (suc left) m (omega arith, not-naming k, behind) h e ∙ rw none)
    where
      not-naming : is_naming w ≡ false → LOCK ≤ w → SYNFCT < w
      not-naming k l = absurd (false≢true (sym k ∙ lock-names w (and_both (le-leb LOCK w l) (le-leb w UNLOCK (bounds SETAL UNLOCK w v).1))))
  action-names (synfct n y z) p q zero m h e = absurd (omega arith)
  action-names (synfct n y z) p q (suc left) m h e = named-number SYNFCT OPEN n (COMMA ∷ place_tokens y ++ (COMMA ∷ place_tokens z ++ (CLOSE ∷ []))) p q left m (omega arith) refl (plain-synfct n y z) h e ∙ rw (and-true (known SYNFCT n))

  actions-names : (r : List Action) (a : Action) (p q left m : ℕ) → Stands s p (actions_tokens a r) q → left ≡ length (actions_tokens a r) + m → names_known s known left p ≡ (each_known known (actions_names a r) && names_known s known m q)
  unfolding actions_tokens actions_names
  actions-names [] a p q left m h e = action-names a p q left m h e
  actions-names (b ∷ r) a p q left m h e =
      let (i, u, v) = stands-split s (action_tokens a) (actions_tokens b r) p q h in
      let n = length-append (action_tokens a) (actions_tokens b r) in
      let k = length (actions_tokens b r) + m in
      action-names a p i left k u (omega arith)
      ∙ rw (actions-names r b i q k m v refl, each_append known (action_names a) (actions_names b r)) (sym (and_assoc (each_known known (action_names a)) (each_known known (actions_names b r)) (names_known s known m q)))

  plain-condition : (c : Condition) → Plain (condition_tokens c)
  unfolding condition_tokens
  plain-condition always = tt
  plain-condition (under w v e) = let b = bounds WHEN EVERY w v in (omega arith, omega arith, plain-expression e)

  -- nothing is named behind the end
  names-end : (left p : ℕ) → token s p ≡ END → names_known s known left p ≡ true
  unfolding names_known
  names-end zero p e = refl
  names-end (suc left) p e = chosen _ _ _ (eq-eqb (token s p) END e)

  pub names-by-tree : (l : Line) (p q : ℕ) → length (line_tokens l) ≤ suc set_size → Stands s p (line_tokens l) q → names_known s known set_size p ≡ each_known known (names_in l)
  unfolding line_tokens names_in
  names-by-tree (line w v n c a r) p q l h =
      let b = bounds ID IDS w v in
      let head = w ∷ EQUALS ∷ whole_token n ∷ [] in
      let (i, u, g) = stands-split s head (condition_tokens c ++ (DO ∷ actions_tokens a r ++ (END ∷ []))) p q h in
      let (j, x, y) = stands-split s (condition_tokens c) (DO ∷ actions_tokens a r ++ (END ∷ [])) i q g in
      let (e, z, o) = stands-split s (actions_tokens a r) (END ∷ []) (j + 1) q y.1 in
      let L = simp length-append at l in
      let m = set_size - 3 - length (condition_tokens c) in
      let k = m - 1 - length (actions_tokens a r) in
      names-behind head p i set_size (set_size - 3) (omega arith) u (omega arith)
      ∙ names-behind (condition_tokens c) i j (set_size - 3) m (plain-condition c) x (omega arith)
      ∙ names-behind (DO ∷ []) j (j + 1) m (m - 1) (omega arith) (y.0, refl) (omega arith)
      ∙ actions-names r a (j + 1) e (m - 1) k z (omega arith)
      ∙ rw (names-end k e o.0) (and-true (each_known known (actions_names a r)))

  -- where there are none, each is known
  none-unknown : (l : List Name) → has_names l ≡ false → each_known known l ≡ true
  unfolding each_known
  none-unknown [] h = refl
  none-unknown (n ∷ l) h = absurd (false≢true (sym h))

  -- a line without a fault in which no action names a line
  pub no_names : (p : ℕ) → length s ≤ set_size → (t : Told) → line_at s p ≡ Ok t → t.names ≡ false → names_known s known set_size p ≡ true
  unfolding parts_from
  no_names p size t found h =
      let f = ap fault_of_line found in
      let o = not-deep s p f in
      let (l, q, g) = line-written s p o (λ z. omega arith) in
      let (e, _) = line-parts s size l p q o g (sym (line-fault s size l p q o g) ∙ f) in
      let fits = line-fits s l p q g in
      let same : parts_from p l ≡ t = cc in
      names-by-tree l p q (omega arith) g ∙ none-unknown (names_in l) (names_of l p ∙ ap (λ (x : Told). x.names) same ∙ h)
    where
      names_of : (l : Line) (p : ℕ) → has_names (names_in l) ≡ (parts_from p l).names
      names_of (line w v n c a r) p = refl
