-- The parentheses that are open, with the innermost last in the code.
use Rattle.std.proofs.Common.{◌≡◌, List, [], ◌∷◌, ◌++◌, length, refl, ap, ◌∙◌, arith, length-append}
use Rattle.name_tree.specs.declared.tree_text.Frame.{Frame as OpenFrame}
use Rattle.name_tree.specs.TreeReaders.{frame_of, frames_of}

pub frames_pushed : (fs : List OpenFrame) (f : OpenFrame)
    → frames_of (fs ++ f ∷ []) ≡ frame_of f ∷ frames_of fs
frames_pushed [] f = refl
frames_pushed (g ∷ gs) f = ap (λ xs. xs ++ frame_of g ∷ []) (frames_pushed gs f)

pub frames_length : (fs : List OpenFrame) → length (frames_of fs) ≡ length fs
frames_length [] = refl
frames_length (f ∷ fs) = let h = frames_length fs in
    length-append (frames_of fs) (frame_of f ∷ []) ∙ omega arith
