-- Filing comments one after another.
use Rattle.std.proofs.Common.{inl, inr, ◌≡◌, ℕ, List, [], ◌∷◌, ◌++◌, append_assoc, append-nil, eqb}
use Rattle.std.proofs.Common.{if◌then◌else◌, IsPermutation, Option, Some, unwrap_or, refl, sym, ap, subst}
use Rattle.std.proofs.Common.{◌∙◌}
use Rattle.std.specs.List.Sorted.{IsStrictlySortedBy}
use Rattle.std.proofs.lemmas.Bool.Decides.{eqb_tells}
use Rattle.std.proofs.lemmas.Grind.{flat_map-append}
use Rattle.std.proofs.lemmas.List.Sorted.{IsPermutation-append_left, IsPermutation-push_more}
use Rattle.std.proofs.lemmas.List.Sorted.{IsPermutation-refl, IsPermutation-trans}
use Rattle.deno_graph_source.specs.ByOffset.{AddsItem, all_items, value_at}
use Rattle.deno_graph_source.specs.Comments.{Ascends, Filing, FiledComments}
use Rattle.deno_graph_source.specs.declared.tree.comments.CommentSide.{CommentSide}
use Rattle.deno_graph_source.specs.declared.tree.comments.CommentSide.TheVariants.{Leading, Trailing}
use Rattle.deno_graph_source.specs.declared.tree.comments.DependencyComment.{DependencyComment}
use Rattle.modinfo_document.specs.declared.comments.FiledEntry.{FiledEntry}
use Rattle.modinfo_document.specs.Comments.{entry_with, all_comments, comments_at, followed_by, AreThoseOf}
use Rattle.modinfo_document.specs.Comments.{HasCommentsOf}
use Rattle.modinfo_document.specs.internal.Comments.{AddsOn, AreAppended, AreAppendedOn}

abbrev Comments : Type 0
Comments = List DependencyComment

-- Appending two lists one after the other appends their concatenation.
followed_twice : (found : Option Comments) (xs ys : Comments)
    → followed_by (followed_by found xs) ys ≡ followed_by found (xs ++ ys)
followed_twice found [] ys = refl
followed_twice found (x ∷ xs) [] = ap (λ zs. Some (unwrap_or found [] ++ x ∷ zs)) (sym (append-nil xs))
followed_twice found (x ∷ xs) (y ∷ ys) = ap Some (append_assoc (unwrap_or found []) (x ∷ xs) (y ∷ ys))

-- Entries are filed, and then other entries.
filed_both : (old mid new : Filing) (es fs : List FiledEntry) → AreAppended old mid es
    → AreAppended mid new fs
    → AreAppended old new (es ++ fs)
filed_both old mid new es fs first then_ = record {
  ascending = λ h. then_.ascending (first.ascending h);
  at_each = λ q. then_.at_each q ∙ ap (λ found. followed_by found (comments_at q fs)) (first.at_each q)
      ∙ followed_twice (value_at old q) (comments_at q es) (comments_at q fs)
      ∙ ap (followed_by (value_at old q))
      (sym (flat_map-append (λ e. if eqb e.position q then e.comments else []) es fs));
  all = subst (λ xs. IsPermutation xs (all_items new))
      (append_assoc (all_items old) (all_comments es) (all_comments fs)
      ∙ ap (λ xs. all_items old ++ xs) (sym (flat_map-append (λ e. e.comments) es fs)))
      (IsPermutation-trans _ _ _ (IsPermutation-append_left (all_comments fs) _ _ first.all) then_.all);
}

-- One more comment of an entry.
one_more : (found : Option Comments) (xs : Comments) (x : DependencyComment)
    → Some (unwrap_or (followed_by found (xs ++ [])) [] ++ x ∷ []) ≡ followed_by found ((xs ++ x ∷ []) ++ [])
one_more found [] x = refl
one_more found (y ∷ ys) x =
    let shorter : (unwrap_or found [] ++ y ∷ (ys ++ [])) ++ x ∷ []
    ≡ unwrap_or found [] ++ y ∷ ((ys ++ x ∷ []) ++ []) = simp (append_assoc, append-nil) refl in
    ap Some shorter

-- Some comments of one entry are filed, and then the next.
filed_more : (old mid new : Filing) (pos : ℕ) (xs : Comments) (x : DependencyComment)
    → AreAppended old mid (entry_with pos xs ∷ []) → AddsItem mid new pos x → Ascends new
    → AreAppended old new (entry_with pos (xs ++ x ∷ []) ∷ [])
filed_more old mid new pos xs x first added ascending = record {
  ascending = λ h. ascending;
  at_each = λ q. elim (eqb_tells pos q) [
    | inl is ↦
        let here : value_at new q ≡ Some (unwrap_or (value_at mid q) [] ++ x ∷ []) =
        subst (λ p. value_at new p ≡ Some (unwrap_or (value_at mid p) [] ++ x ∷ [])) is.1 added.added in
        here
        ∙ ap (λ found. Some (unwrap_or found [] ++ x ∷ []))
        (first.at_each q ∙ ap (λ b. followed_by (value_at old q) ((if b then xs else []) ++ [])) is.0)
        ∙ one_more (value_at old q) xs x
        ∙ sym (ap (λ b. followed_by (value_at old q) ((if b then xs ++ x ∷ [] else []) ++ [])) is.0)
    | inr isnt ↦
        added.others q (λ e. isnt.1 (sym e))
        ∙ first.at_each q ∙ ap (λ b. followed_by (value_at old q) ((if b then xs else []) ++ [])) isnt.0
        ∙ sym (ap (λ b. followed_by (value_at old q) ((if b then xs ++ x ∷ [] else []) ++ [])) isnt.0)
  ];
  all =
      let before : IsPermutation (all_items old ++ xs) (all_items mid) =
      subst (λ ys. IsPermutation (all_items old ++ ys) (all_items mid)) (append-nil xs) first.all in
      subst (λ ys. IsPermutation ys (all_items new))
      (append_assoc (all_items old) xs (x ∷ [])
      ∙ ap (λ ys. all_items old ++ ys) (sym (append-nil (xs ++ x ∷ []))))
      (IsPermutation-push_more _ _ _ x before added.items);
}

-- No comment is filed.
nothing_filed : (filing : Filing) → IsPermutation (all_items filing ++ []) (all_items filing)
nothing_filed filing =
    subst (λ xs. IsPermutation xs (all_items filing)) (sym (append-nil (all_items filing)))
    (IsPermutation-refl (all_items filing))

empty_filed : (filing : Filing) (pos : ℕ) → AreAppended filing filing (entry_with pos [] ∷ [])
empty_filed filing pos = record {
  ascending = λ h. h;
  at_each = λ q. elim (eqb_tells pos q) [
    | inl is ↦ sym (ap (λ b. followed_by (value_at filing q) ((if b then [] else []) ++ [])) is.0)
    | inr isnt ↦ sym (ap (λ b. followed_by (value_at filing q) ((if b then [] else []) ++ [])) isnt.0)
  ];
  all = nothing_filed filing;
}

none_filed : (filing : Filing) → AreAppended filing filing []
none_filed filing = record { ascending = λ h. h; at_each = λ q. refl; all = nothing_filed filing }

-- ---- On one side

pub none_on : (side : CommentSide) (filed : FiledComments) → AreAppendedOn side filed filed []
none_on Leading filed = (none_filed filed.leading, refl)
none_on Trailing filed = (none_filed filed.trailing, refl)

-- An entry without comments.
pub empty_on : (side : CommentSide) (filed : FiledComments) (pos : ℕ)
    → AreAppendedOn side filed filed (entry_with pos [] ∷ [])
empty_on Leading filed pos = (empty_filed filed.leading pos, refl)
empty_on Trailing filed pos = (empty_filed filed.trailing pos, refl)

pub both_on : (side : CommentSide) (old mid new : FiledComments) (es fs : List FiledEntry)
    → AreAppendedOn side old mid es
    → AreAppendedOn side mid new fs → AreAppendedOn side old new (es ++ fs)
both_on Leading old mid new es fs first then_ =
    (filed_both _ mid.leading _ es fs first.0 then_.0, then_.1 ∙ first.1)
both_on Trailing old mid new es fs first then_ =
    (filed_both _ mid.trailing _ es fs first.0 then_.0, then_.1 ∙ first.1)

pub more_on : (side : CommentSide) (old mid new : FiledComments) (pos : ℕ) (xs : List DependencyComment)
    (x : DependencyComment)
    → AreAppendedOn side old mid (entry_with pos xs ∷ []) → AddsOn side mid new pos x
    → AreAppendedOn side old new (entry_with pos (xs ++ x ∷ []) ∷ [])
more_on Leading old mid new pos xs x first added =
    (filed_more _ mid.leading _ pos xs x first.0 added.0 added.2, added.1 ∙ first.1)
more_on Trailing old mid new pos xs x first added =
    (filed_more _ mid.trailing _ pos xs x first.0 added.0 added.2, added.1 ∙ first.1)

none_ascend : Ascends []
unfolding IsStrictlySortedBy
none_ascend = tt

-- Entries that are filed first.
from_empty : (old new : Filing) (entries : List FiledEntry) → old ≡ [] → AreAppended old new entries
    → HasCommentsOf entries new
from_empty old new entries is filed = record {
  ascending = filed.ascending (subst Ascends (sym is) none_ascend);
  at_each = λ q. filed.at_each q ∙ ap (λ f. followed_by (value_at f q) (comments_at q entries)) is;
  all = subst (λ f. IsPermutation (all_items f ++ all_comments entries) (all_items new)) is filed.all;
}

-- One side is filed, and then the other.
pub both_sides : (none mid new : FiledComments) (leading trailing : List FiledEntry) → none.leading ≡ []
    → none.trailing ≡ []
    → AreAppendedOn Leading none mid leading → AreAppendedOn Trailing mid new trailing
    → AreThoseOf (record { leading = leading; trailing = trailing }) new
both_sides none mid new leading trailing no_leading no_trailing first then_ = (
  subst (HasCommentsOf leading) (sym then_.1)
      (from_empty none.leading mid.leading leading no_leading first.0),
  from_empty mid.trailing new.trailing trailing (first.1 ∙ no_trailing) then_.0,
)
