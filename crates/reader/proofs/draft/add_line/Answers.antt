-- `draft::add_line`, by its tests: the tokens that are written stand behind those that are kept; EachLineLaws has what the draft says of the line.
use Rattle.std.proofs.Common.{◌≡◌, sym, ap, subst, ◌∙◌, Bool, true, ◌&&◌, Some, List, [], ◌∷◌, ℕ, ◌+◌, ◌-◌, ◌≤◌, eqb, length, get_or, take, drop, arith}
use Rattle.values.specs.PutAt.{put_at}
use Rattle.values.specs.PutLaws.{put-length}
use Rattle.tokens.specs.Token.{END, FCTDEF, set_size}
use Rattle.text.specs.Tokens.{Tokens, tokens_of}
use Rattle.text.specs.TokensLaws.{tokens-real, tokens-within}
use Rattle.text.specs.Lines.{Numbered}
use Rattle.reader.specs.declared.draft.Draft.{Draft}
use Rattle.reader.specs.Row.{Kept}
use Rattle.reader.specs.Load.{defines, rows_from}
use Rattle.reader.specs.Draft.{written, kept_in, tokens_to, added_to, at_line, Held, Follows, Says}
use Rattle.reader.proofs.TokenLaws.{written-none, written-some}
use Rattle.reader.proofs.DraftLaws.{part-put, rows-length, kept_put, held-put}
use Rattle.reader.proofs.EachLineLaws.{says-bad, says-curve, says-line}
use Rattle.reader.proofs.draft.add_line.Goals as goal

-- the n tokens of a line, in the array x
module _ (s x : List ℕ) (d : Draft) (l : Numbered) (n : ℕ) (h : Held s d) (z : d.at + length l.body ≤ set_size) (e : Some n ≡ written (tokens_of l.body)) (p : x ≡ put_at s d.at (tokens_of l.body).list) where
  abbrev tokens : Tokens
  tokens = tokens_of l.body

  abbrev end : ℕ
  end = d.at + n

  fine : tokens.good ≡ true
  fine = (written-some tokens n e).0

  counted : n ≡ length tokens.list
  counted = (written-some tokens n e).1

  room : end ≤ set_size
  room = let w = tokens-within l.body in let c = counted in omega arith

  size : length x ≡ set_size
  size = ap (λ (y : List ℕ). length y) p ∙ put-length tokens.list s d.at ∙ h.size

  -- they stand there
  part : tokens_to x d end ≡ tokens.list
  part =
      let c = counted in
      let y = h.size in
      let r = room in
      let q : end - d.at ≡ length tokens.list = omega arith in
      ap (λ (y : List ℕ). tokens_to y d end) p
      ∙ ap (λ (m : ℕ). take m (drop d.at (put_at s d.at tokens.list))) q ∙ part-put tokens.list s d.at (omega arith)

  -- and nothing that is kept has changed
  same : kept_in x d ≡ kept_in s d
  same = ap (λ (y : List ℕ). kept_in y d) p ∙ kept_put s d h tokens.list

  held : Held x d
  held = subst (λ (y : List ℕ). Held y d) (sym p) (held-put s d h tokens.list)

  follows : Follows x d end
  follows = (omega arith, room, rw part (tokens-real l.body))

  -- whether they define a curve
  defining : (b : Bool) → b ≡ (eqb d.count 0 && eqb (get_or (tokens_to x d end) 0 END) FCTDEF) → defines (kept_in x d) tokens.list ≡ b
  defining b q =
      sym (q ∙ ap (λ (t : List ℕ). eqb d.count 0 && eqb (get_or t 0 END) FCTDEF) part ∙ ap (λ (m : ℕ). eqb m 0 && eqb (get_or tokens.list 0 END) FCTDEF) (sym (rows-length x d d.count 0)))

pub returns-in_default : goal.returns-in_default
returns-in_default c =
    let l : Numbered = record { place = c.args.k; body = c.args.body.now } in
    (says-bad (kept_in c.args.s.now c.args.d.now) l _ (written-none (tokens_of l.body) (sym c.in_default.is ∙ c.write_tokens.ensures.value)), c.requires.1)

pub overflow_add-end : goal.overflow_add-end
overflow_add-end c =
    let l : Numbered = record { place = c.args.k; body = c.args.body.now } in
    let r = room c.args.s.now c.write_tokens.new.s c.args.d.now l c.in-Some.count c.requires.0 c.requires.3 (sym c.in-Some.is ∙ c.write_tokens.ensures.value) c.write_tokens.ensures.s_after in
    omega arith

pub slice_bounds-defines-end : goal.slice_bounds-defines-end
slice_bounds-defines-end c =
    let l : Numbered = record { place = c.args.k; body = c.args.body.now } in
    let e = sym c.in-Some.is ∙ c.write_tokens.ensures.value in
    let r = room c.args.s.now c.write_tokens.new.s c.args.d.now l c.in-Some.count c.requires.0 c.requires.3 e c.write_tokens.ensures.s_after in
    let z = size c.args.s.now c.write_tokens.new.s c.args.d.now l c.in-Some.count c.requires.0 c.requires.3 e c.write_tokens.ensures.s_after in
    omega arith

pub add_curve-requires : goal.add_curve-requires
add_curve-requires c =
    let l : Numbered = record { place = c.args.k; body = c.args.body.now } in
    let e = sym c.in-Some.is ∙ c.write_tokens.ensures.value in
    (held c.args.s.now c.write_tokens.new.s c.args.d.now l c.in-Some.count c.requires.0 c.requires.3 e c.write_tokens.ensures.s_after, follows c.args.s.now c.write_tokens.new.s c.args.d.now l c.in-Some.count c.requires.0 c.requires.3 e c.write_tokens.ensures.s_after, c.requires.1)

pub returns-then-defines : goal.returns-then-defines
returns-then-defines c =
    let s = c.args.s.now in
    let x = c.write_tokens.new.s in
    let d = c.args.d.now in
    let l : Numbered = record { place = c.args.k; body = c.args.body.now } in
    let n = c.in-Some.count in
    let h = c.requires.0 in
    let z = c.requires.3 in
    let e = sym c.in-Some.is ∙ c.write_tokens.ensures.value in
    let p = c.write_tokens.ensures.s_after in
    let f = follows s x d l n h z e p in
    let q = defining s x d l n h z e p c.defines.result c.defines.ensures ∙ c.if-defines.true in
    (subst (λ (k : Kept). Says (rows_from k (l ∷ [])) x (at_line c.args.k (added_to c.add_curve.new.d c.add_curve.result))) (same s x d l n h z e p) (says-curve x d (held s x d l n h z e p) l (d.at + n) f.0 f.1 (fine s x d l n h z e p) (part s x d l n h z e p) _ q c.add_curve.ensures.0), c.add_curve.ensures.1)

pub add_numbered-requires : goal.add_numbered-requires
add_numbered-requires c =
    let l : Numbered = record { place = c.args.k; body = c.args.body.now } in
    let e = sym c.in-Some.is ∙ c.write_tokens.ensures.value in
    (held c.args.s.now c.write_tokens.new.s c.args.d.now l c.in-Some.count c.requires.0 c.requires.3 e c.write_tokens.ensures.s_after, follows c.args.s.now c.write_tokens.new.s c.args.d.now l c.in-Some.count c.requires.0 c.requires.3 e c.write_tokens.ensures.s_after, c.requires.1, c.requires.2)

pub returns : goal.returns
returns c =
    let s = c.args.s.now in
    let x = c.write_tokens.new.s in
    let d = c.args.d.now in
    let l : Numbered = record { place = c.args.k; body = c.args.body.now } in
    let n = c.in-Some.count in
    let h = c.requires.0 in
    let z = c.requires.3 in
    let e = sym c.in-Some.is ∙ c.write_tokens.ensures.value in
    let p = c.write_tokens.ensures.s_after in
    let f = follows s x d l n h z e p in
    let q = defining s x d l n h z e p c.defines.result c.defines.ensures ∙ c.if-defines.false in
    (subst (λ (k : Kept). Says (rows_from k (l ∷ [])) x (at_line c.args.k (added_to c.add_numbered.new.d c.add_numbered.result))) (same s x d l n h z e p) (says-line x d (held s x d l n h z e p) l (d.at + n) f.0 f.1 (fine s x d l n h z e p) (part s x d l n h z e p) _ c.requires.2 q c.add_numbered.ensures.0), c.add_numbered.ensures.1)
