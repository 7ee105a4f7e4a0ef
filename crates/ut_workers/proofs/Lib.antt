mod StripeLemmas
