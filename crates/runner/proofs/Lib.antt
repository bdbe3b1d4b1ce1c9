mod Texts
mod Computed
