-- What stands at the front of a list is one thing: where one of a mark, a word, a group and the end is seen, no other is.
use Rattle.std.proofs.Common.{◌≡◌, ℕ, ◌==◌, Bool, true, false, if◌then◌else◌, List, [], ◌∷◌, Option, Some, None, is_some, refl, ap}
use Rattle.syn_pat.proofs.pat_laws.words.Tokens.{Delimiter, Punct, is_done, sees_group, sees_mark, sees_word, Bytes, Toks, done, word, mark, lit, group, enter, leave}
use Rattle.token_core.specs.Front.{front}
use Rattle.token_core.specs.Reads.{as_group, as_punct, as_word, group_meets, is_end, is_last, past_mark, past_next, word_meets}

-- ---- by the first token

end_no_punct : (l : Toks) → is_end l ≡ true → as_punct l ≡ None
end_no_punct done h = refl
end_no_punct (word i k) h = refl
end_no_punct (mark p k) h = cc h
end_no_punct (lit x k) h = refl
end_no_punct (group d s c k) h = refl
end_no_punct (enter s k) h = refl
end_no_punct (leave k) h = refl

end_no_group : (d : Delimiter) (l : Toks) → is_end l ≡ true → group_meets d (as_group l) ≡ false
end_no_group d done h = refl
end_no_group d (word i k) h = refl
end_no_group d (mark p k) h = refl
end_no_group d (lit x k) h = refl
end_no_group d (group b s c k) h = cc h
end_no_group d (enter s k) h = refl
end_no_group d (leave k) h = refl

word_no_group : (test : Bytes → Bool) (d : Delimiter) (l : Toks) → word_meets test (as_word l) ≡ true → group_meets d (as_group l) ≡ false
word_no_group test d done h = refl
word_no_group test d (word i k) h = refl
word_no_group test d (mark p k) h = refl
word_no_group test d (lit x k) h = refl
word_no_group test d (group b s c k) h = cc h
word_no_group test d (enter s k) h = refl
word_no_group test d (leave k) h = refl

mark_no_group_at : (c : ℕ) (cs : List ℕ) (d : Delimiter) (b : Bool) (l : Toks) → is_some (past_next c b (past_mark cs) (as_punct l)) ≡ true → group_meets d (as_group l) ≡ false
mark_no_group_at c cs d b done h = refl
mark_no_group_at c cs d b (word i k) h = refl
mark_no_group_at c cs d b (mark p k) h = refl
mark_no_group_at c cs d b (lit x k) h = refl
mark_no_group_at c cs d b (group a s e k) h = cc h
mark_no_group_at c cs d b (enter s k) h = refl
mark_no_group_at c cs d b (leave k) h = refl

pub done_no_mark : (c : ℕ) (cs : List ℕ) (l : Toks) → is_done l ≡ true → sees_mark (c ∷ cs) l ≡ false
unfolding sees_mark is_done
done_no_mark c cs l h = ap (λ o. is_some (past_next c (is_last cs) (past_mark cs) o)) (end_no_punct (front l) h)

pub done_no_group : (d : Delimiter) (l : Toks) → is_done l ≡ true → sees_group d l ≡ false
unfolding sees_group is_done
done_no_group d l h = end_no_group d (front l) h

pub word_apart : (test : Bytes → Bool) (d : Delimiter) (l : Toks) → sees_word test l ≡ true → sees_group d l ≡ false
unfolding sees_group sees_word
word_apart test d l h = word_no_group test d (front l) h

pub mark_apart : (c : ℕ) (cs : List ℕ) (d : Delimiter) (l : Toks) → sees_mark (c ∷ cs) l ≡ true → sees_group d l ≡ false
unfolding sees_mark sees_group
mark_apart c cs d l h = mark_no_group_at c cs d _ (front l) h

by_test : {A B : Type 0} (y : B) (b : Bool) (o : Option A) → is_some (if b then o else None) ≡ true → is_some (if b then Some y else None) ≡ true
by_test y true o h = refl
by_test y false o h = cc h

prefix_at : (c : ℕ) (ds : List ℕ) (b : Bool) (o : Option (Punct × Toks)) → is_some (past_next c b (past_mark ds) o) ≡ true → is_some (past_next c true (past_mark []) o) ≡ true
prefix_at c ds b None h = cc h
prefix_at c ds true (Some p) h = by_test _ (p.0.ch == c) _ h
prefix_at c ds false (Some p) h = by_test _ (p.0.ch == c) _ h

no_longer_by : (c : ℕ) (ds : List ℕ) (l : Toks) (b : Bool) → sees_mark (c ∷ ds) l ≡ b → sees_mark (c ∷ []) l ≡ false → sees_mark (c ∷ ds) l ≡ false
unfolding sees_mark
no_longer_by c ds l true h g = let k = prefix_at c ds (is_last ds) (as_punct (front l)) h in cc (k, g)
no_longer_by c ds l false h g = h

-- no mark stands where its first character does not
pub no_longer : (c : ℕ) (ds : List ℕ) (l : Toks) → sees_mark (c ∷ []) l ≡ false → sees_mark (c ∷ ds) l ≡ false
no_longer c ds l h = no_longer_by c ds l (sees_mark (c ∷ ds) l) refl h
