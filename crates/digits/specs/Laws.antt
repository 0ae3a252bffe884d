-- What stands in a buffer before and after a text written there; one text after another.
use Rattle.std.specs.Prelude.{◌≡◌, refl, List, [], ◌∷◌, ◌++◌, ℕ, ◌+◌, ◌≤◌, length, take, drop}
use Rattle.std.proofs.Common.{sym, ap, ◌∙◌, append_assoc, append-nil, add-zero, arith, take-append-drop, length-append, length-take, length-drop, length-take-le, take_at, drop_at, drop-drop}
use Rattle.digits.specs.declared.Text.{Text}
use Rattle.digits.specs.Writing.{Wrote, Added}

pub wrote_none : (at : ℕ) (out : List ℕ) → Wrote at out [] at out
wrote_none at out = record { long = refl; end_is = omega arith; out_is = rw (add-zero, take-append-drop) }

-- a text that keeps the buffer's length is empty or lies inside it
parts : (at : ℕ) (out cs : List ℕ) → length (take at out ++ (cs ++ drop (at + length cs) out)) ≡ length out
    → (take (at + length cs) (take at out ++ (cs ++ drop (at + length cs) out)) ≡ take at out ++ cs)
    × (drop (at + length cs) (take at out ++ (cs ++ drop (at + length cs) out)) ≡ drop (at + length cs) out)
parts at out [] e = rw (add-zero, take-append-drop) (sym (append-nil (take at out)), refl)
parts at out (c ∷ cs) e =
    let long = simp (length-append, length-take, length-drop) at e in
    let inside : at ≤ length out = omega arith in
    let front : length (take at out ++ (c ∷ cs)) ≡ at + length (c ∷ cs) = rw (length-append, length-take-le at out inside) in
    rw (← append_assoc (take at out) (c ∷ cs) (drop (at + length (c ∷ cs)) out)) (
      take_at (take at out ++ (c ∷ cs)) (drop (at + length (c ∷ cs)) out) (at + length (c ∷ cs)) front,
      drop_at (take at out ++ (c ∷ cs)) (drop (at + length (c ∷ cs)) out) (at + length (c ∷ cs)) front,
    )

module _ {at end : ℕ} {out cs out' : List ℕ} (w : Wrote at out cs end out') where
  both_parts : (take end out' ≡ take at out ++ cs) × (drop end out' ≡ drop end out)
  both_parts = rw (w.end_is, w.out_is) (parts at out cs (sym (ap length w.out_is) ∙ w.long))

  -- up to its end: what stood before it, then the text
  pub wrote_front : take end out' ≡ take at out ++ cs
  wrote_front = both_parts.0

  -- after its end: what stood there
  pub wrote_back : drop end out' ≡ drop end out
  wrote_back = both_parts.1

-- one text, then another
pub wrote_more : {at e e₂ : ℕ} {out xs out₁ ys out₂ : List ℕ} → Wrote at out xs e out₁ → Wrote e out₁ ys e₂ out₂ → Wrote at out (xs ++ ys) e₂ out₂
wrote_more {at} {e} {e₂} {out} {xs} {out₁} {ys} {out₂} a b =
    let place : at + length (xs ++ ys) ≡ e + length ys = rw length-append (omega (arith, a.end_is)) in
    let rest : drop (e + length ys) out₁ ≡ drop (e + length ys) out =
    sym (drop-drop (length ys) e out₁) ∙ ap (drop (length ys)) (wrote_back a) ∙ drop-drop (length ys) e out in
    record {
      long = b.long ∙ a.long;
      end_is = rw place b.end_is;
      out_is = b.out_is ∙ rw (wrote_front a, rest, place) (simp append_assoc);
    }

-- the same of a text that is added to

pub added_none : (t : Text) → Added t [] t
added_none t = record { same_buffer = refl; wrote = wrote_none t.at t.out.now }

pub added_more : {t t₁ t₂ : Text} {xs ys : List ℕ} → Added t xs t₁ → Added t₁ ys t₂ → Added t (xs ++ ys) t₂
added_more a b = record { same_buffer = b.same_buffer ∙ a.same_buffer; wrote = wrote_more a.wrote b.wrote }
