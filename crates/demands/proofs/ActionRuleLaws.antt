-- The actions of a line neither read the flags nor the memory: the same actions in a world with other flags do the same, and what they do to the locks is what they write
-- down. Assumes nothing.
use Rattle.std.specs.Prelude.{◌≡◌, Bool, true, false, List, [], ◌∷◌, ◌++◌, eqb, ltb, get_or, set}
use Rattle.std.proofs.Math.Path.{refl}
use Rattle.std.proofs.Common.{ap}
use Prim.Native.Nat.{ℕ, zero, suc, ◌+◌}
use Rattle.tokens.specs.Token.{END, M, SETAL, LOCK, SYNFCT, is_variable, is_drive, whole, max_lines, is_axis, is_call}
use Rattle.tokens.specs.Descent.{token, Answer, good, stop, ◌>>=◌, index_at}
use Rattle.tokens.specs.ChooseLaws.{through, choose}
use Rattle.working.specs.Operators.{from_worked}
use Rattle.working.specs.Working.{right_value, variable_at}
use Rattle.engine.specs.Set.{rank_in, defined_curve}
use Rattle.engine.specs.Action.{World, Note, Did, taken_at, assignment_of, curve_assigned, synfct_of, lock_of, command_of, drive_of, action_of, from_reached}
use Rattle.engine.specs.Actions.{actions_of}
use Rattle.engine.specs.Drive.{drive_order}
use Rattle.engine.specs.Write.{write_to}
use Rattle.tokens.specs.AnswerLaws.{Ok}

-- ---- a world in other flags

abbrev pub dress : List Bool → List Bool → World → World
dress l m x = record { vars = x.vars; locked = l; memory = m; acted = x.acted; orders = x.orders }

-- the locks after these locks and releases, left to right
abbrev pub note_all : List Note → List Bool → List Bool
note_all [] l = l
note_all (n ∷ ns) l = note_all ns (set l n.0 n.1)

pub note-append : (ms ns : List Note) (l : List Bool) → note_all (ms ++ ns) l ≡ note_all ns (note_all ms l)
note-append [] ns l = refl
note-append (m ∷ ms) ns l = note-append ms ns (set l m.0 m.1)

abbrev pub dress_did : List Bool → List Bool → Did → Answer Did
dress_did l m d = good (record { world = dress (note_all d.notes l) m d.world; next = d.next; notes = d.notes })

module _ (s numbers : List ℕ) (cancelled : List Bool) (number : ℕ) where
  module _ (l m : List Bool) (x : World) where
    assignment-dress : (w p : ℕ) → assignment_of s (dress l m x) w p ≡ (assignment_of s x w p >>= dress_did l m)
    unfolding assignment_of
    assignment-dress w p = through (dress_did l m) (taken_at s x.vars (p + 5)) _ _ (λ a. through (dress_did l m) (write_to a.vars w (index_at s w p) a.value) _ _ (λ v. refl))

    synfct-dress : (p : ℕ) → synfct_of s (dress l m x) p ≡ (synfct_of s x p >>= dress_did l m)
    unfolding synfct_of
    synfct-dress p =
        let w = token s (p + 4) in
        through (dress_did l m) (from_worked (variable_at s x.vars.r x.vars.cells (p + 9))) _ _
        (λ a. through (dress_did l m) (curve_assigned x.vars (defined_curve s (whole (token s (p + 2)))) a w (index_at s w (p + 4))) _ _ (λ v. refl))

    drive-dress : (w p : ℕ) → drive_of s number (dress l m x) w p ≡ (drive_of s number x w p >>= dress_did l m)
    unfolding drive_of
    drive-dress w p = choose (dress_did l m) (is_axis (get_or s (p + 2) 0)) _ _ _ _ (through (dress_did l m) (from_reached (right_value s x.vars.r x.vars.cells (p + 5))) _ _ (λ a. through (dress_did l m) (drive_order number w (index_at s w p) a.0) _ _ (λ o. refl))) refl

    lock-dress : (b : Bool) (k p : ℕ) → lock_of cancelled (dress l m x) b k p ≡ (lock_of cancelled x b k p >>= dress_did l m)
    unfolding lock_of
    lock-dress b k p = choose (dress_did l m) (ltb k max_lines) _ _ _ _ (choose (dress_did l m) (get_or cancelled k false) _ _ _ _ refl refl) refl

    command-dress : (w p : ℕ) → command_of s numbers cancelled number (dress l m x) w p ≡ (command_of s numbers cancelled number x w p >>= dress_did l m)
    unfolding command_of
    command-dress w p = choose (dress_did l m) (eqb w M) _ _ _ _ refl (choose (dress_did l m) (eqb w SETAL) _ _ _ _ refl (choose (dress_did l m) (is_call w) _ _ _ _ (lock-dress (eqb w LOCK) (rank_in numbers (whole (get_or s (p + 2) 0)) 0) (p + 4)) refl))

    action-dress : (p : ℕ) → action_of s numbers cancelled number (dress l m x) p ≡ (action_of s numbers cancelled number x p >>= dress_did l m)
    unfolding action_of
    action-dress p =
        choose (dress_did l m) (eqb (get_or s p 0) END) _ _ _ _ refl (choose (dress_did l m) (is_variable (get_or s p 0)) _ _ _ _ (assignment-dress (get_or s p 0) p)
        (choose (dress_did l m) (is_drive (get_or s p 0)) _ _ _ _ (drive-dress (get_or s p 0) p)
        (choose (dress_did l m) (eqb (get_or s p 0) SYNFCT) _ _ _ _ (synfct-dress p) (command-dress (get_or s p 0) p))))

  -- the actions in other flags
  pub actions-dress : (j : ℕ) (l m : List Bool) (x : World) (p : ℕ) → actions_of s numbers cancelled number j (dress l m x) p ≡ (actions_of s numbers cancelled number j x p >>= dress_did l m)
  unfolding actions_of
  actions-dress zero l m x p = refl
  actions-dress (suc j) l m x p = rw (action-dress l m x p) (go (action_of s numbers cancelled number x p) (actions-dress j))
    where
      rest : Did → Answer Did
      rest d = actions_of s numbers cancelled number j d.world d.next >>= λ e. good (record { world = e.world; next = e.next; notes = d.notes ++ e.notes })

      more : Did → Answer Did
      more d = elim (eqb (get_or s d.next 0) END) [ true ↦ good d | false ↦ rest d ]

      go : (a : Answer Did) →
          ((l m : List Bool) (x : World) (p : ℕ) → actions_of s numbers cancelled number j (dress l m x) p ≡ (actions_of s numbers cancelled number j x p >>= dress_did l m)) →
          (a >>= dress_did l m >>= more) ≡ (a >>= more >>= dress_did l m)
      go (good d) h = choose (dress_did l m) (eqb (get_or s d.next 0) END) _ _ _ _ refl
          (rw (h (note_all d.notes l) m d.world d.next) (end (actions_of s numbers cancelled number j d.world d.next)))
        where
          end : (b : Answer Did) →
              (b >>= dress_did (note_all d.notes l) m >>= λ e. good (record { world = e.world; next = e.next; notes = d.notes ++ e.notes }))
              ≡ (b >>= (λ e. good (record { world = e.world; next = e.next; notes = d.notes ++ e.notes })) >>= dress_did l m)
          end (good e) = rw (note-append d.notes e.notes l)
          end (stop k) = refl
      go (stop k) h = refl

  -- what the actions do to the locks is what they write down, and they write no memory
  abbrev pub Noted : World → Did → Type 0
  Noted x d = (d.world.locked ≡ note_all d.notes x.locked) × (d.world.memory ≡ x.memory)

  pub actions-noted : (j : ℕ) (x : World) (p : ℕ) → Ok (Noted x) (actions_of s numbers cancelled number j x p)
  actions-noted j x p = go (actions_of s numbers cancelled number j x p) (actions-dress j x.locked x.memory x p)
    where
      go : (a : Answer Did) → a ≡ (a >>= dress_did x.locked x.memory) → Ok (Noted x) a
      go (good d) e =
          let h : d ≡ record { world = dress (note_all d.notes x.locked) x.memory d.world; next = d.next; notes = d.notes } = cc in
          (ap (λ y. y.world.locked) h, ap (λ y. y.world.memory) h)
      go (stop c) e = tt
