-- What a call on a fresh frame is.
use Rattle.std.specs.Prelude.{◌≡◌}
use denote.Param.Members.{Once}
use denote.Ref.{MutBor}
use Rattle.interpreter.specs.declared.frame.Frame.{Frame}
use Rattle.interpreter.specs.Representation.{zeroed}

module _ {F T R : Type 0} (g : Once F (MutBor Frame × (T × Unit {0})) (R
    × (MutBor Frame × Unit {0}))) (f : F) (task : T) where
  -- f may be called on any frame of zeros and the task
  abbrev pub TakesFresh : Type 0
  TakesFresh = (frame : MutBor Frame) → frame.now ≡ zeroed → g.pre f (frame, (task, tt))

  -- r is what f may answer on a frame of zeros and the task
  pub record AnswersFresh (r : R) : Type 0 where
    pub frame : MutBor Frame
    pub is_zeroed : frame.now ≡ zeroed
    pub left : MutBor Frame
    pub answered : g.post f (frame, (task, tt)) (r, (left, tt))

-- a new arena had no room for a frame
abbrev pub HasNoRoom : {A : Type 0} → (A → Type 0) → (A → Type 0) → Type 0
HasNoRoom {A = A} is_new refuses = (arena : A) × is_new arena × refuses arena
