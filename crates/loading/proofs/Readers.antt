-- One line of a declaration section, and one line of a block.
use Rattle.std.proofs.Common.{◌≡◌, ℕ, zero, suc, ◌+◌, ◌<◌, ◌≤◌, List, [], ◌∷◌, ◌++◌, length, Some, None, Ok, Err, Option, Result, refl, ap, ◌∙◌, add-one, arith}
use Rattle.cards.specs.declared.lines.Declaration.{Declaration}
use Rattle.cards.specs.Code.{Block, end, next, Statement}
use Rattle.loading.specs.declared.refusal.LineFault.{LineFault}
use Rattle.loading.specs.declared.refusal.LineFault.TheVariants.{Misplaced, Open}
use Rattle.loading.specs.declared.refusal.LoadRefusal.{LoadRefusal}
use Rattle.loading.specs.declared.refusal.LoadRefusal.TheVariants as R
use Rattle.loading.specs.declared.cursor.Cursor.{Cursor}
use Rattle.loading.specs.declared.blocks.Closer.{Closer}
use Rattle.loading.specs.declared.blocks.Closer.TheVariants as C
use Rattle.loading.specs.declared.blocks.SectionKind.{SectionKind}
use Rattle.loading.specs.Lines.{Line}
use Rattle.loading.specs.Texts.{Said, upcoming}
use Rattle.loading.specs.Blocks.{got, bad, bind, Mark, more, close, wrong, mark, by_mark, read_section, closer, by_closer, statement_by, Reader, followed, block_by, read_block, AnswerIs, Forward}

module _ (h : ℕ) (k : SectionKind) (ds : List Declaration) (s : List Said) (l : ℕ) where
  pub section_open : s ≡ [] → read_section h k ds s l ≡ bad (Open (h + l))
  unfolding read_section
  section_open e = rw e refl

  pub section_fault : (f : LineFault) → s ≡ Err f ∷ [] → read_section h k ds s l ≡ bad f
  unfolding read_section
  section_fault f e = rw e refl

  module _ (x : Line) (t : List Said) (e : s ≡ Ok x ∷ t) where
    marked : (m : Mark) → m ≡ mark x k l → read_section h k ds s l ≡ by_mark m h ds t l (λ es. read_section h k es t (suc l))
    unfolding read_section
    marked m is = rw (e, is) refl

    pub section_closes : (l' : ℕ) → close ≡ mark x k l → l' ≡ l + 1 → read_section h k ds s l ≡ got ds t l'
    section_closes l' is n = marked close is ∙ ap (got ds t) (omega arith)

    pub section_wrong : wrong ≡ mark x k l → read_section h k ds s l ≡ bad (Misplaced (h + l))
    section_wrong is = marked wrong is

    pub section_more : (d : Declaration) (es : List Declaration) (h' l' : ℕ) → more d ≡ mark x k l → es ≡ ds ++ d ∷ [] → h' ≡ h → l' ≡ l + 1 → read_section h k ds s l ≡ read_section h' k es t l'
    section_more d es h' l' is e₁ e₂ e₃ = marked (more d) is ∙ rw (e₁, e₂, e₃, add-one) refl

pub forward_both : (b c d : Cursor) → Forward b c → Forward c d → Forward b d
forward_both b c d p q = record { fewer = omega (arith, p.fewer, q.fewer); header = q.header ∙ p.header; objects = q.objects ∙ p.objects }

-- one line read
pub forward_next : (x : Said) (c d : Cursor) → upcoming c ≡ x ∷ upcoming d → d.header ≡ c.header → d.objects ≡ c.objects → Forward c d
forward_next x c d e h o = record { fewer = omega (arith, ap length e); header = h; objects = o }

-- a cursor with nothing to come
pub forward_none : (c d : Cursor) → upcoming d ≡ [] → d.header ≡ c.header → d.objects ≡ c.objects → Forward c d
forward_none c d e h o = record { fewer = omega (arith, ap length e); header = h; objects = o }

-- One line of a block.

module _ (h n : ℕ) (s : List Said) (l d : ℕ) where
  block_line : (f : ℕ) → length s < f → (g : ℕ) × (length s ≤ g) × (read_block h n f s l d ≡ block_by h n (read_block h n g) s l d)
  unfolding read_block
  block_line zero k = absurd (omega arith)
  block_line (suc g) k = (g, omega arith, refl)

  line_out : (r : Reader) (t : List Said) (l' : ℕ) → s ≡ [] → t ≡ [] → l' ≡ l → block_by h n r s l d ≡ got (end, C.Out) t l'
  line_out r t l' e e₁ e₂ = rw (e, e₁, e₂) refl

  line_fault : (r : Reader) (y : LineFault) → s ≡ Err y ∷ [] → block_by h n r s l d ≡ bad y
  line_fault r y e = rw e refl

  line_says : (r : Reader) (x : Line) (t : List Said) (m : ℕ) (o : Option Closer) → s ≡ Ok x ∷ t → m ≡ h + l → o ≡ closer x m → block_by h n r s l d ≡ by_closer h n r o x t l d
  line_says r x t m o e em is = rw e (rw (is, em) refl)

  pub block_out : (t : List Said) (l' : ℕ) → s ≡ [] → t ≡ [] → l' ≡ l → (f : ℕ) → length s < f → read_block h n f s l d ≡ got (end, C.Out) t l'
  block_out t l' e e₁ e₂ f k = (block_line f k).2 ∙ line_out (read_block h n (block_line f k).0) t l' e e₁ e₂

  pub block_fault : (y : LineFault) → s ≡ Err y ∷ [] → (f : ℕ) → length s < f → read_block h n f s l d ≡ bad y
  block_fault y e f k = (block_line f k).2 ∙ line_fault (read_block h n (block_line f k).0) y e

  module _ (x : Line) (t : List Said) (e : s ≡ Ok x ∷ t) where
    pub block_closes : (q : Closer) (m l' : ℕ) → m ≡ h + l → Some q ≡ closer x m → l' ≡ l + 1 → (f : ℕ) → length s < f → read_block h n f s l d ≡ got (end, q) t l'
    block_closes q m l' em is el f k = (block_line f k).2 ∙ line_says (read_block h n (block_line f k).0) x t m (Some q) e em is ∙ ap (got (end, q) t) (omega arith)

    -- it begins a statement; h' and n' are h and n, m is the line's number in the text, l' that of the next line
    module _ (h' n' m l' : ℕ) (eh : h' ≡ h) (en : n' ≡ n) (em : m ≡ h + l) (opens : None ≡ closer x m) (el : l' ≡ l + 1) where
      same_here : (g : ℕ) → bind (statement_by h n (read_block h n g) x l t (suc l) d) (followed (read_block h n g) d l) ≡ bind (statement_by h' n' (read_block h' n' g) x l t l' d) (followed (read_block h' n' g) d l)
      same_here g = rw (eh, en, el, add-one) refl

      begun : (f : ℕ) → length s < f → (g : ℕ) × (length s ≤ g) × (read_block h n f s l d ≡ bind (statement_by h' n' (read_block h' n' g) x l t l' d) (followed (read_block h' n' g) d l))
      begun f k = let p = block_line f k in (p.0, p.1, p.2 ∙ line_says (read_block h n p.0) x t m None e em opens ∙ same_here p.0)

      less : length t < length s
      less = omega (arith, ap length e)

      -- the statement that is to be read
      abbrev Says : {A : Type 0} → (A → Statement) → Result A LoadRefusal → Cursor → Type 0
      Says g r c = (f l₁ : ℕ) → m ≡ h' + l₁ → length t < f → AnswerIs g r (statement_by h' n' (read_block h' n' f) x l₁ t l' d) c

      pub fails_first : {A B : Type 0} (g : A → Statement) (y : LoadRefusal) (c : Cursor) → Says g (Err y) c → (g₁ : B → Block × Closer) (f : ℕ) → length s < f → AnswerIs g₁ (Err y) (read_block h n f s l d) c
      fails_first g (R.Line z) c st g₁ f k = let p = begun f k in p.2 ∙ ap (λ o. bind o (followed (read_block h' n' p.0) d l)) (st p.0 l (rw eh em) (omega (arith, p.1, less)))
      fails_first g R.Memory c st g₁ f k = tt
      fails_first g R.TooLong c st g₁ f k = st (length t + 1) l (rw eh em) (omega arith)
      fails_first g R.TooManyTasks c st g₁ f k = st (length t + 1) l (rw eh em) (omega arith)
      fails_first g R.TooManySteps c st g₁ f k = st (length t + 1) l (rw eh em) (omega arith)

      -- it says v, and then come the lines of u, of which the first is number l''
      module _ (v : Statement) (u : List Said) (h'' n'' l'' : ℕ) (eh' : h'' ≡ h') (en' : n'' ≡ n') (le : length u ≤ length t) (st : (f l₁ : ℕ) → m ≡ h' + l₁ → length t < f → statement_by h' n' (read_block h' n' f) x l₁ t l' d ≡ got v u l'') where
        same_then : (g : ℕ) → followed (read_block h' n' g) d l v u l'' ≡ followed (read_block h'' n'' g) d l v u l''
        same_then g = rw (eh', en') refl

        both : (f : ℕ) → length s < f → (g : ℕ) × (length s ≤ g) × (read_block h n f s l d ≡ followed (read_block h'' n'' g) d l v u l'')
        both f k =
            let p = begun f k in
            (p.0, p.1, p.2 ∙ ap (λ o. bind o (followed (read_block h' n' p.0) d l)) (st p.0 l (rw eh em) (omega (arith, p.1, less))) ∙ same_then p.0)

        pub fails_then : {A : Type 0} (g : A → Block × Closer) (y : LoadRefusal) (c : Cursor) → ((f : ℕ) → length u < f → AnswerIs g (Err y) (read_block h'' n'' f u l'' d) c) → (f : ℕ) → length s < f → AnswerIs g (Err y) (read_block h n f s l d) c
        fails_then g (R.Line z) c rest f k = let p = both f k in p.2 ∙ ap (λ o. bind o (λ q s₁ m₁. got (next l v q.0, q.1) s₁ m₁)) (rest p.0 (omega (arith, p.1, less)))
        fails_then g R.Memory c rest f k = tt
        fails_then g R.TooLong c rest f k = rest (length u + 1) (omega arith)
        fails_then g R.TooManyTasks c rest f k = rest (length u + 1) (omega arith)
        fails_then g R.TooManySteps c rest f k = rest (length u + 1) (omega arith)

        pub reads_both : (b : Block) (q : Closer) (w : List Said) (l''' : ℕ) → ((f : ℕ) → length u < f → read_block h'' n'' f u l'' d ≡ got (b, q) w l''') → (f : ℕ) → length s < f → read_block h n f s l d ≡ got (next l v b, q) w l'''
        reads_both b q w l''' rest f k = let p = both f k in p.2 ∙ ap (λ o. bind o (λ q s₁ m₁. got (next l v q.0, q.1) s₁ m₁)) (rest p.0 (omega (arith, p.1, less)))
