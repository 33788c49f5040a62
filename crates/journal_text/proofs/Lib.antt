mod PlainChanges
mod KeyedTexts
mod ToldLemmas
